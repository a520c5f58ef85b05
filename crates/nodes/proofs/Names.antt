-- What the proofs of the functions that read names, parameters and other tokens without recursion use. Assumes nothing.
use mathlib.Core.Path.{◌≡◌, refl, sym, ap, ◌∙◌}
use mathlib.Core.Bool.{Bool, true, false}
use mathlib.Core.List.{List, [], ◌∷◌, ◌++◌, append_assoc, append-nil}
use Prim.Native.Nat.{ℕ, ◌+◌, ◌*◌, ◌-◌, ◌≤◌, ◌<◌}
use native.Mathlib.Omega.{arith}
use borrow.Author.Tests.{eq-eqb, ne_eqb}
use lib.Dec.{eqb}
use lib.ListN.{length, take, drop}
use Rattle.token.specs.Kind
use Rattle.token.specs.declared.Token.{Token}
use Rattle.tree.specs.Tree.{Tree, Forest, node, none, more, empty, snoc, count, records, all_records}
use Rattle.tree.specs.Node
use Rattle.tree.specs.NodeKind
use Rattle.tree.specs.Store.{Emitted}
use Rattle.grammar.specs.Reading.Number
use Rattle.grammar.specs.Reading.Result.{Res, ok, bad, fail, stop, then, ifb, Error}
use Rattle.grammar.specs.Reading.Look.{look}
use Rattle.grammar.specs.Reading.Function.{Param, required, variadic, default, Params, joined}
use Rattle.scan.specs.Post.{Unread, Got, Finds, itself, Writes}
use Rattle.nodes.specs.Ends.{Added}
use Rattle.nodes.specs.Parts.{Header, separator, join, signature_words}
use Rattle.nodes.specs.Parameters.{Heads, required_words, words_of, params_words, variadic_of, with_default, Fitting, Joins}
use Rattle.std.proofs.Common.{Result, Ok, Err}
use Rattle.scan.specs.declared.Cursor.{Cursor}
use Rattle.scan.specs.declared.Halt.{Halt}
use Rattle.scan.specs.declared.Halt.TheVariants.{Fail, Stop}
use Rattle.nodes.specs.declared.Counts.{Counts}
use Rattle.nodes.specs.declared.Head.{Head}
use Rattle.nodes.specs.declared.Head.TheVariants.{Required as HRequired, Variadic as HVariadic, Default as HDefault}
use Rattle.nodes.proofs.Made.{all_snoc}
use Rattle.scan.proofs.Looking.{through}
use Rattle.nodes.proofs.Algebra.{look_plain, plain_not_bad}

-- A READING e that is the reading d
same_unread : {A : Type 0} {d e : List Error → Res A} {T : List ℕ} {pos₁ least₁ pos least : ℕ} {h : Halt} → ((q : List Error) → e q ≡ d q) → Unread d T pos₁ least₁ h → pos ≤ pos₁ → least ≤ least₁ → Unread e T pos least h
same_unread {h = Fail failure} i u f g =
    let l = u.how in
    let on = l.on in
    let far = l.far in
    record { how = record { same = λ q. i q ∙ l.same q; on = omega arith; within = l.within; far = omega arith } }
same_unread {h = Stop n} i u f g = record { how = λ q. i q ∙ u.how q }

-- A READING e that begins with the reading d, and goes on by k: it fails as d does
pub onward : {A B : Type 0} {d : List Error → Res A} {e : List Error → Res B} {T : List ℕ} {pos₁ least₁ pos least : ℕ} {h : Halt} (k : List ℕ → A → List Error → List ℕ → Res B) → ((q : List Error) → e q ≡ then q (d q) (k q)) → Unread d T pos₁ least₁ h → pos ≤ pos₁ → least ≤ least₁ → Unread e T pos least h
onward k i u f g = same_unread (λ q. refl) (through k i u) f g

-- A READING of a number, and one that fails, at p
pub finds : {d : List Error → Res ℕ} {T : List ℕ} {pos least far bound p v : ℕ} → ((q : List Error) → d q ≡ ok v (drop p T)) → least ≤ p → p ≤ length T → v < bound → Finds itself d T pos least far bound (Ok (record { pos = p; number = v }))
finds same on within below = record { how = record { got = record { what = _; same = same; on = on; within = within }; is = refl; below = below } }

pub failed : {A : Type 0} {d : List Error → Res A} {T : List ℕ} {pos least p e : ℕ} → ((q : List Error) → d q ≡ fail e q (drop p T)) → pos ≤ p → p ≤ length T → least ≤ p + (least + 1 - length T) → Unread d T pos least (Fail (record { error = e; pos = p }))
failed same on within far = record { how = record { same = same; on = on; within = within; far = far } }

-- what is not read is not written
pub unwrote : {A : Type 0} {words : A → List ℕ} {d : List Error → Res A} {T : List ℕ} {pos least most at : ℕ} {X S : List ℕ} {h : Halt} → Unread d T pos least h → Writes words d T pos least most at X S S (Err h)
unwrote u = record { how = record { unread = u; text = refl } }

abbrev same_got : {A : Type 0} {d e : List Error → Res A} {T : List ℕ} {least₁ least p : ℕ} → ((q : List Error) → e q ≡ d q) → Got d T least₁ p → least ≤ least₁ → Got e T least p
same_got i g h = let on = g.on in record { what = g.what; same = λ q. i q ∙ g.same q; on = omega arith; within = g.within }

pub same_writes : {A : Type 0} {words : A → List ℕ} {d e : List Error → Res A} {T : List ℕ} {pos least₁ least most at : ℕ} {X S S' : List ℕ} {r : Result Cursor Halt} → ((q : List Error) → e q ≡ d q) → Writes words d T pos least₁ most at X S S' r → least ≤ least₁ → Writes words e T pos least most at X S S' r
same_writes {r = Ok end} i u h = let s = u.how in record { how = record { got = same_got i s.got h; far = s.far; text = s.text } }
same_writes {r = Err halt} i u h = let s = u.how in record { how = record { unread = same_unread i s.unread (omega arith) h; text = s.text } }

pub same_heads : {T : List ℕ} {pos₁ least₁ pos least : ℕ} {d e : List Error → Res Header} {r : Result Head Halt} → ((q : List Error) → e q ≡ d q) → Heads d T pos₁ least₁ r → pos ≤ pos₁ → least ≤ least₁ → Heads e T pos least r
same_heads {r = Ok (HRequired p v)} i u h g = let s = u.how in record { how = record { got = same_got i s.got g; is = s.is; below = s.below } }
same_heads {r = Ok (HVariadic p v)} i u h g = let s = u.how in record { how = record { got = same_got i s.got g; is = s.is; below = s.below } }
same_heads {r = Ok (HDefault p v)} i u h g = let s = u.how in record { how = record { got = same_got i s.got g; is = s.is; below = s.below } }
same_heads {r = Err halt} i u h g = record { how = same_unread i u.how h h }

-- THE RECORD of a node without children
pub leaf : (k : ℕ) {at v v' word r : ℕ} {S S' : List ℕ} → Emitted at word v r S S' → v' ≡ v → word ≡ k → take r S' ≡ take at S ++ records (node k v' none)
unfolding records count
leaf k {at} {S = S} e h g = let z : k + 256 * 0 ≡ k = omega arith in e.text ∙ rw (h, g, z)

-- PARAMETERS
pub no_words_more : {a n : ℕ} {S : List ℕ} (m : ℕ) → (n ≡ 0 → ⊥) → Added a 2 (required_words m n) a S S
unfolding required_words ifb
no_words_more {a} {S = S} m h = record { up = omega arith; far = omega arith; text = rw (ne_eqb _ _ h) (sym (append-nil (take a S))); whole = refl }

pub list_more : {a n r : ℕ} {S S' : List ℕ} (m : ℕ) → n ≡ 0 → Emitted a (1 + 256 * m) 0 r S S' → Added a 2 (required_words m n) r S S'
unfolding required_words ifb
list_more m h e = let x = e.next in record { up = omega arith; far = omega arith; text = rw (eq-eqb _ _ h) e.text; whole = e.whole }

words_none : (r f : Forest) → count f ≡ 0 → words_of r f ≡ all_records r
unfolding count
words_none r none e = refl
words_none r (more t f) e = absurd (omega arith)

-- what the required parameters, or their list, and those with a default come to behind their list
listed_words : (r f : Forest) (m n : ℕ) → count r ≡ m → count f ≡ n → words_of r f ++ (required_words m n ++ (1 + 256 * n) ∷ 0 ∷ []) ≡ records (Node.list r) ++ records (Node.list f)
unfolding records count required_words ifb
listed_words r none m n h g = let z : n ≡ 0 = omega arith in rw (eq-eqb _ _ z, z, h) (sym (append_assoc (all_records r) _ _))
listed_words r (more t f) m n h g =
    let z : n ≡ 0 → ⊥ = λ e. omega arith in
    rw (ne_eqb _ _ z, ← g) (append_assoc (all_records r ++ (1 + 256 * count r) ∷ 0 ∷ []) _ _)

pub signature : (ps : Params) (c : Counts) (X Y B D R : List ℕ) → Fitting ps c → Y ≡ X ++ params_words ps → B ≡ Y ++ required_words c.required c.default → D ≡ B ++ (1 + 256 * c.default) ∷ 0 ∷ [] → R ≡ D ++ records (variadic_of c.variadic) → R ≡ X ++ signature_words ps
unfolding records
signature ps c X Y B D R f y b d r =
    let w = words_of ps.required_list ps.default_list in
    let o = required_words c.required c.default in
    let l : List ℕ = (1 + 256 * c.default) ∷ 0 ∷ [] in
    let k = listed_words ps.required_list ps.default_list c.required c.default f.are_required f.are_default in
    let e : D ≡ X ++ (records (Node.list ps.required_list) ++ records (Node.list ps.default_list)) = d ∙ ap (λ (s : List ℕ). s ++ l) (b ∙ ap (λ (s : List ℕ). s ++ o) y) ∙ append_assoc (X ++ w) o l ∙ append_assoc X w (o ++ l) ∙ ap (λ (s : List ℕ). X ++ s) k in
    r ∙ ap (λ (s : List ℕ). s ++ records (variadic_of c.variadic)) e ∙ ap (λ (t : Tree). (X ++ (records (Node.list ps.required_list) ++ records (Node.list ps.default_list))) ++ records t) (sym f.is_variadic)
    ∙ append_assoc X _ _ ∙ ap (λ (s : List ℕ). X ++ s) (append_assoc (records (Node.list ps.required_list)) _ _ ∙ ap (λ (s : List ℕ). records (Node.list ps.required_list) ++ (records (Node.list ps.default_list) ++ s)) (sym (append-nil (records ps.variadic_one))))

pub is_empty : (f : Forest) → count f ≡ 0 → empty f ≡ true
unfolding count
is_empty none e = refl
is_empty (more t f) e = absurd (omega arith)

pub not_empty : (f : Forest) → 0 < count f → empty f ≡ false
unfolding count
not_empty none h = absurd (omega arith)
not_empty (more t f) h = refl

-- WHAT STANDS BEHIND A PARAMETER, from what was answered of it
pub data Between (q : List Error) (ts : List ℕ) (v : ℕ) (r : List ℕ) : Type 0 where
  a_comma : {tok : Token} → look q ts ≡ ok tok r → eqb tok.kind Kind.Comma ≡ true → v ≡ 1 → Between q ts v r
  an_end : {tok : Token} {rest : List ℕ} → look q ts ≡ ok tok rest → eqb tok.kind Kind.Comma ≡ false → eqb tok.kind Kind.CloseParen ≡ true → v ≡ 0 → r ≡ ts → Between q ts v r

data Neither (q : List Error) (ts : List ℕ) (e : ℕ) (r : List ℕ) : Type 0 where
  no_token : look q ts ≡ fail e q r → Neither q ts e r
  another : {tok : Token} {rest : List ℕ} → look q ts ≡ ok tok rest → eqb tok.kind Kind.Comma ≡ false → eqb tok.kind Kind.CloseParen ≡ false → e ≡ Number.invalid_param → r ≡ ts → Neither q ts e r

abbrev sep_of : List ℕ → List ℕ → List ℕ → Bool → Bool → Res ℕ
sep_of q ts rest b c = ifb b (λ _. ok 1 rest) (λ _. ifb c (λ _. ok 0 ts) (λ _. fail Number.invalid_param q ts))

sep_ok : (q : List Error) (ts : List ℕ) {r rest : List ℕ} {v : ℕ} {tok : Token} (b c : Bool) → look q ts ≡ ok tok rest → eqb tok.kind Kind.Comma ≡ b → eqb tok.kind Kind.CloseParen ≡ c → sep_of q ts rest b c ≡ ok v r → Between q ts v r
unfolding ifb
sep_ok q ts {r} {rest} {tok = tok} true c l x y e = let z : rest ≡ r = cc in a_comma {tok = tok} (l ∙ ap (ok tok) z) x (cc)
sep_ok q ts false true l x y e = an_end l x y (cc) (cc)
sep_ok q ts false false l x y e = absurd (let z : ◌≡◌ {A = ℕ} 0 1 = cc in omega arith)

sep_fail : (q : List Error) (ts : List ℕ) {r rest : List ℕ} {n : ℕ} {tok : Token} (b c : Bool) → look q ts ≡ ok tok rest → eqb tok.kind Kind.Comma ≡ b → eqb tok.kind Kind.CloseParen ≡ c → sep_of q ts rest b c ≡ fail n q r → Neither q ts n r
unfolding ifb
sep_fail q ts true c l x y e = absurd (let z : ◌≡◌ {A = ℕ} 0 1 = cc in omega arith)
sep_fail q ts false true l x y e = absurd (let z : ◌≡◌ {A = ℕ} 0 1 = cc in omega arith)
sep_fail q ts false false l x y e = another l x y (cc) (cc)

sep_stop : (q : List Error) (ts rest : List ℕ) {n : ℕ} (b c : Bool) → sep_of q ts rest b c ≡ stop n → ⊥
unfolding ifb
sep_stop q ts rest true c e = let z : ◌≡◌ {A = ℕ} 0 1 = cc in omega arith
sep_stop q ts rest false true e = let z : ◌≡◌ {A = ℕ} 0 1 = cc in omega arith
sep_stop q ts rest false false e = let z : ◌≡◌ {A = ℕ} 0 1 = cc in omega arith

abbrev sep_go : List ℕ → List ℕ → Token → List Error → List ℕ → Res ℕ
sep_go q ts tok q₁ rest = sep_of q ts rest (eqb tok.kind Kind.Comma) (eqb tok.kind Kind.CloseParen)

between_as : (q : List Error) (ts : List ℕ) {v : ℕ} {r : List ℕ} (d : Res Token) → look q ts ≡ d → then q d (sep_go q ts) ≡ ok v r → Between q ts v r
unfolding then
between_as q ts (ok tok rest) l e = sep_ok q ts _ _ l refl refl e
between_as q ts (bad tok q' rest) l e = absurd (plain_not_bad (look_plain q ts) l)
between_as q ts (fail n q' rest) l e = absurd (let z : ◌≡◌ {A = ℕ} 0 1 = cc in omega arith)
between_as q ts (stop n) l e = absurd (let z : ◌≡◌ {A = ℕ} 0 1 = cc in omega arith)

pub between : (q : List Error) (ts : List ℕ) {v : ℕ} {r : List ℕ} → separator q ts ≡ ok v r → Between q ts v r
unfolding separator
between q ts e = between_as q ts (look q ts) refl e

-- an end of one reading as that of another
refailed : {A B : Type 0} {n m : ℕ} {q : List Error} {p r s : List ℕ} → ◌≡◌ {A = Res A} (fail n q r) (fail m p s) → ◌≡◌ {A = Res B} (fail n q r) (fail m p s)
refailed {n = n} {m} {q} {p} {r} {s} e =
    let a : n ≡ m = cc in
    let b : q ≡ p = cc in
    let c : r ≡ s = cc in
    rw (a, b, c)

restopped : {A B : Type 0} {n m : ℕ} → ◌≡◌ {A = Res A} (stop n) (stop m) → ◌≡◌ {A = Res B} (stop n) (stop m)
restopped {n = n} {m} e = let a : n ≡ m = cc in rw a

neither_as : (q : List Error) (ts : List ℕ) {n : ℕ} {r : List ℕ} (d : Res Token) → look q ts ≡ d → then q d (sep_go q ts) ≡ fail n q r → Neither q ts n r
unfolding then
neither_as q ts (ok tok rest) l e = sep_fail q ts _ _ l refl refl e
neither_as q ts (bad tok q' rest) l e = absurd (plain_not_bad (look_plain q ts) l)
neither_as q ts (fail n q' rest) l e = no_token (l ∙ refailed e)
neither_as q ts (stop n) l e = absurd (let z : ◌≡◌ {A = ℕ} 0 1 = cc in omega arith)

neither : (q : List Error) (ts : List ℕ) {n : ℕ} {r : List ℕ} → separator q ts ≡ fail n q r → Neither q ts n r
unfolding separator
neither q ts e = neither_as q ts (look q ts) refl e

stopped_as : (q : List Error) (ts : List ℕ) {n : ℕ} (d : Res Token) → look q ts ≡ d → then q d (sep_go q ts) ≡ stop n → look q ts ≡ stop n
unfolding then
stopped_as q ts (ok tok rest) l e = absurd (sep_stop q ts rest _ _ e)
stopped_as q ts (bad tok q' rest) l e = absurd (plain_not_bad (look_plain q ts) l)
stopped_as q ts (fail n q' rest) l e = absurd (let z : ◌≡◌ {A = ℕ} 0 1 = cc in omega arith)
stopped_as q ts (stop n) l e = l ∙ restopped e

look_stopped : (q : List Error) (ts : List ℕ) {n : ℕ} → separator q ts ≡ stop n → look q ts ≡ stop n
unfolding separator
look_stopped q ts e = stopped_as q ts (look q ts) refl e

-- a parameter that is not joined
joined_not : (ps : Params) (p : Param) (k : ℕ) (q : List Error) (ts : List ℕ) → eqb k Kind.Comma ≡ false → eqb k Kind.CloseParen ≡ false → joined ps p k q ts ≡ fail Number.invalid_param q ts
unfolding joined ifb
joined_not ps (required v) k q ts x y = rw (x, y)
joined_not ps (variadic v) k q ts x y = rw (x, y)
joined_not ps (default v e) k q ts x y = rw (x, y)

join_lacks : (ps : Params) (p : Param) (q : List Error) (ts : List ℕ) {n : ℕ} {r : List ℕ} → Neither q ts n r → join ps p q ts ≡ fail n q r
unfolding join then
join_lacks ps p q ts (no_token l) = rw l
join_lacks ps p q ts (another {tok = tok} l x y e z) = rw (l, joined_not ps p tok.kind q ts x y, e, z)

join_stops : (ps : Params) (p : Param) (q : List Error) (ts : List ℕ) {n : ℕ} → look q ts ≡ stop n → join ps p q ts ≡ stop n
unfolding join then
join_stops ps p q ts l = rw l

-- what is not read is not joined
not_joined : {d : List Error → Res Params} {X T : List ℕ} {pos at : ℕ} {k : Counts} {S : List ℕ} {h : Halt} → Unread d T pos pos h → Joins d X T pos k at S S (Err h)
not_joined u = record { how = record { unread = u; text = refl } }

pub unjoined : {X T : List ℕ} {pos at : ℕ} {k : Counts} {S : List ℕ} {h : Halt} (ps : Params) (p : Param) → Unread (λ q. separator q (drop pos T)) T pos pos h → Joins (λ q. join ps p q (drop pos T)) X T pos k at S S (Err h)
unjoined {h = Fail failure} ps p u =
    let l = u.how in
    not_joined (failed (λ q. join_lacks ps p q _ (neither q _ (l.same q))) l.on l.within l.far)
unjoined {h = Stop n} ps p u = not_joined (record { how = λ q. join_stops ps p q _ (look_stopped q _ (u.how q)) })

-- a parameter that is
abbrev pub with_required : Params → ℕ → Params
with_required ps v = record { required_list = snoc ps.required_list (Node.param_def v); default_list = ps.default_list; variadic_one = ps.variadic_one }

abbrev pub with_variadic : Params → ℕ → Params
with_variadic ps v = record { required_list = ps.required_list; default_list = ps.default_list; variadic_one = Node.param_def v }

pub join_required : (ps : Params) (x : ℕ) (q : List Error) (ts : List ℕ) {v : ℕ} {r : List ℕ} → empty ps.default_list ≡ true → Between q ts v r → join ps (required x) q ts ≡ ok (with_required ps x) r
unfolding join joined then ifb
join_required ps x q ts e (a_comma l b h) = rw (l, b, e)
join_required ps x q ts e (an_end l b c h z) = rw (l, b, c, e, z)

join_order : (ps : Params) (x : ℕ) (q : List Error) (ts : List ℕ) {v : ℕ} {r : List ℕ} → empty ps.default_list ≡ false → Between q ts v r → join ps (required x) q ts ≡ fail Number.param_order q ts
unfolding join joined then ifb
join_order ps x q ts e (a_comma l b h) = rw (l, b, e)
join_order ps x q ts e (an_end l b c h z) = rw (l, b, c, e)

pub join_variadic : (ps : Params) (x : ℕ) (q : List Error) (ts : List ℕ) {v : ℕ} {r : List ℕ} → (v ≡ 1 → ⊥) → Between q ts v r → join ps (variadic x) q ts ≡ ok (with_variadic ps x) r
unfolding join joined then ifb
join_variadic ps x q ts n (a_comma l b h) = absurd (n h)
join_variadic ps x q ts n (an_end l b c h z) = rw (l, b, c, z)

join_not_last : (ps : Params) (x : ℕ) (q : List Error) (ts : List ℕ) {v : ℕ} {r : List ℕ} → v ≡ 1 → Between q ts v r → join ps (variadic x) q ts ≡ fail Number.variadic_not_last q ts
unfolding join joined then ifb
join_not_last ps x q ts n (a_comma l b h) = rw (l, b)
join_not_last ps x q ts n (an_end l b c h z) = absurd (omega arith)

pub join_default : (ps : Params) (x : ℕ) (t : Tree) (q : List Error) (ts : List ℕ) {v : ℕ} {r : List ℕ} → Between q ts v r → join ps (default x t) q ts ≡ ok (with_default ps x t) r
unfolding join joined then ifb
join_default ps x t q ts (a_comma l b h) = rw (l, b)
join_default ps x t q ts (an_end l b c h z) = rw (l, b, c, z)

module _ {T : List ℕ} {pos p : ℕ} (ps : Params) (g : Got (λ q. separator q (drop pos T)) T pos p) where
  abbrev pub joins_required : (x : ℕ) → empty ps.default_list ≡ true → Got (λ q. join ps (required x) q (drop pos T)) T pos p
  joins_required x e = record { what = with_required ps x; same = λ q. join_required ps x q _ e (between q _ (g.same q)); on = g.on; within = g.within }

  abbrev pub joins_variadic : (x : ℕ) → (g.what ≡ 1 → ⊥) → Got (λ q. join ps (variadic x) q (drop pos T)) T pos p
  joins_variadic x n = record { what = with_variadic ps x; same = λ q. join_variadic ps x q _ n (between q _ (g.same q)); on = g.on; within = g.within }

  abbrev pub joins_default : (x : ℕ) (t : Tree) → Got (λ q. join ps (default x t) q (drop pos T)) T pos p
  joins_default x t = record { what = with_default ps x t; same = λ q. join_default ps x t q _ (between q _ (g.same q)); on = g.on; within = g.within }

  module _ {X S : List ℕ} {at : ℕ} {k : Counts} (x : ℕ) where
    pub out_of_order : empty ps.default_list ≡ false → Joins (λ q. join ps (required x) q (drop pos T)) X T pos k at S S (Err (Fail (record { error = Number.param_order; pos = pos })))
    out_of_order e = let h = g.on in let k = g.within in not_joined (failed (λ q. join_order ps x q _ e (between q _ (g.same q))) (omega arith) (omega arith) (omega arith))

    pub not_last : g.what ≡ 1 → Joins (λ q. join ps (variadic x) q (drop pos T)) X T pos k at S S (Err (Fail (record { error = Number.variadic_not_last; pos = pos })))
    not_last e = let h = g.on in let k = g.within in not_joined (failed (λ q. join_not_last ps x q _ e (between q _ (g.same q))) (omega arith) (omega arith) (omega arith))

pub required_text : {at v a : ℕ} {S S' : List ℕ} (X : List ℕ) (ps : Params) → count ps.default_list ≡ 0 → take at S ≡ X ++ params_words ps → Emitted at 25 v a S S' → take a S' ≡ X ++ params_words (with_required ps v)
required_text {v = v} X ps z t e =
    leaf NodeKind.ParamDef e refl refl ∙ ap (λ (s : List ℕ). s ++ records (Node.param_def v)) (t ∙ ap (λ (s : List ℕ). X ++ s) (words_none ps.required_list ps.default_list z)) ∙ append_assoc X (all_records ps.required_list) (records (Node.param_def v))
    ∙ ap (λ (s : List ℕ). X ++ s) (sym (all_snoc ps.required_list (Node.param_def v)) ∙ sym (words_none (snoc ps.required_list (Node.param_def v)) ps.default_list z))
