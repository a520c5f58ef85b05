-- The parameters of a function (grammar's Reading/Function.antt): one parameter, how it joins those before it, and a round of the loop over them. Assumes nothing.
use mathlib.Core.Path.{◌≡◌, refl, sym, ap, ◌∙◌}
use mathlib.Core.Bool.{Bool, true, false}
use mathlib.Core.List.{List, [], ◌∷◌, ◌++◌, append_assoc, append-nil}
use Prim.Native.Nat.{ℕ, suc, ◌+◌, ◌*◌, ◌-◌, ◌≤◌}
use native.Mathlib.Omega.{arith}
use lib.Dec.{eqb}
use lib.ListN.{length, take, drop}
use borrow.Author.Tests.{eq-eqb, ne_eqb}
use Rattle.token.specs.Kind
use Rattle.token.specs.declared.Token.{Token}
use Rattle.tree.specs.Tree.{Tree, Forest, none, more, one, snoc, count, records}
use Rattle.tree.specs.Node
use Rattle.tree.specs.Store.{Emitted}
use Rattle.grammar.proofs.Laws.Keep.{Holds, k_ok, k_failed, k_on, k_any, k_if}
use Rattle.grammar.specs.Reading.Result.{Res, ok, then, ifb, Error}
use Rattle.grammar.specs.Reading.Look.{look}
use Rattle.grammar.specs.Reading.Expr.{Depth, expr}
use Rattle.grammar.specs.Reading.Function.{Param, required, variadic, default, Params, variadic_param, plain_param, param, joined, params}
use Rattle.nodes.specs.Parts.{Header, h_required, h_variadic, h_default, param_name, variadic_head, param_kind, param_head, join}
use Rattle.scan.specs.Post.{As, Moved, Room, Failed, Wrote, Unread, Taken}
use Rattle.nodes.specs.Parameters.{NamedBelow, HeaderAt, Heads, DefaultOne, required_words, default_words, ParameterAt, ParamsRead, words_of, params_words, with_default, Fitting, JoinsTo, Unjoined, JoinedBy}
use Rattle.std.proofs.Common.{None, Ok, Err}
use Rattle.scan.specs.declared.Halt.{Halt}
use Rattle.nodes.specs.declared.Counts.{Counts}
use Rattle.nodes.specs.declared.Head.{Head}
use Rattle.nodes.specs.declared.Head.TheVariants.{Required as HRequired, Variadic as HVariadic, Default as HDefault}
use Rattle.nodes.specs.declared.Parameter.{Parameter}
use Rattle.nodes.specs.declared.Parameter.TheVariants.{Required as PRequired, Variadic as PVariadic, Default as PDefault}
use Rattle.nodes.specs.declared.Joined.{Joined}
use Rattle.grammar.proofs.Laws.Facts.{if_same}
use Rattle.nodes.proofs.Algebra.{then_ok, then_then, then_if, then_same, look_then, look_known, Plain, an_ok, a_fail, look_plain, plain_then}
use Rattle.scan.proofs.Laws.{way, goes, Looks, gets, lacks}
use Rattle.nodes.proofs.Made.{put, all_one, all_snoc}
use Rattle.cycle.proofs.Shapes.{given}
use Rattle.scan.proofs.Text.{left, grown, prefix_of}
use Rattle.scan.proofs.Waiting.{other}
use Rattle.scan.proofs.Looking.{counted}

-- what adds no error to the queue
plain_if : {A : Type 0} (b : Bool) {x y : Unit {0} → Res A} → ((u : Unit {0}) → Plain (x u)) → ((u : Unit {0}) → Plain (y u)) → Plain (ifb b x y)
unfolding ifb
plain_if true f g = f tt
plain_if false f g = g tt

-- ONE PARAMETER: its head, and what is made of it
abbrev pub param_end : Depth → Header → List Error → List ℕ → Res Param
param_end low (h_required v) q r = ok (required v) r
param_end low (h_variadic v) q r = ok (variadic v) r
param_end low (h_default v) q r = then q (expr low q r) λ e q₂ s. ok (default v e) s

module _ (low : Depth) (v : ℕ) (q : List Error) where
  variadic_step : (ts : List ℕ) → then q (variadic_head v q ts) (param_end low) ≡ variadic_param v q ts
  unfolding variadic_head variadic_param then
  variadic_step ts = look_then q ts _ _ _ λ tok r. then_if q _ _ _ _ ∙ if_same _ (λ u. refl) (λ u. refl)

  plain_step : (ts : List ℕ) {tok : Token} {r : List ℕ} → look q ts ≡ ok tok r → plain_param low v q ts ≡ ifb (eqb tok.kind Kind.OpAssign) (λ _. then q (expr low q r) λ e q₂ s. ok (default v e) s) (λ _. ok (required v) ts)
  unfolding plain_param then
  plain_step ts e = rw e

  kind_step : (ts : List ℕ) → then q (param_kind v q ts) (param_end low) ≡ then q (look q ts) (λ tok q₃ rest. ifb (eqb tok.kind Kind.Ellipsis) (λ _. variadic_param v q rest) (λ _. plain_param low v q ts))
  unfolding param_kind
  kind_step ts =
      plain_then q (look_plain q ts) _ (λ tok q₃ rest. ifb (eqb tok.kind Kind.Ellipsis) (λ _. variadic_param v q rest) (λ _. ifb (eqb tok.kind Kind.OpAssign) (λ _. then q (expr low q rest) λ e q₂ s. ok (default v e) s) (λ _. ok (required v) ts))) (param_end low)
      (λ tok r. then_if q _ _ _ _ ∙ if_same _ (λ u. variadic_step r) (λ u. then_if q _ _ _ _ ∙ if_same _ (λ u. then_ok q _) (λ u. then_ok q _)))
      ∙ look_known q ts _ _ (λ tok r e. if_same _ (λ u. refl) (λ u. sym (plain_step ts e)))

pub param_step : (low : Depth) (q : List Error) (ts : List ℕ) → param low q ts ≡ then q (param_head q ts) (param_end low)
unfolding param param_head param_name
param_step low q ts =
    sym (then_then q _ _ _ ∙ then_then q _ _ _ ∙ then_same q _ λ mode q₁ r. then_then q₁ _ _ _ ∙ then_same q₁ _ λ name q₂ s. then_ok q₂ _ ∙ kind_step low (Node.named name.value mode) q₂ s)

pub param_got : (low : Depth) (make : ℕ → Header) (pos : ℕ) {T : List ℕ} {least p v : ℕ} → HeaderAt make (λ q. param_head q (drop pos T)) T least p v → (q : List Error) → param low q (drop pos T) ≡ param_end low (make v) q (drop p T)
param_got low make pos {T} {least} {p} g q = param_step low q (drop pos T) ∙ ap (λ (d : Res Header). then q d (param_end low)) (g.got.same q) ∙ then_ok q _ ∙ ap (λ (h : Header). param_end low h q (drop p T)) g.is

module _ {d : List Error → Res Header} {T : List ℕ} {pos least p v : ℕ} {h : Head} where
  pub head_required : h ≡ HRequired p v → Heads d T pos least (Ok h) → HeaderAt h_required d T least p v
  head_required e x = (rw e at x).how

  pub head_variadic : h ≡ HVariadic p v → Heads d T pos least (Ok h) → HeaderAt h_variadic d T least p v
  head_variadic e x = (rw e at x).how

  pub head_default : h ≡ HDefault p v → Heads d T pos least (Ok h) → HeaderAt h_default d T least p v
  head_default e x = (rw e at x).how

pub no_head : {d : List Error → Res Header} {T : List ℕ} {pos least : ℕ} {h : Halt} → Heads d T pos least (Err h) → Unread d T pos pos h
no_head x = x.how

pub default_one : (X W : List ℕ) (v : ℕ) (t : Tree) {a r : ℕ} {Y S S' : List ℕ} → Emitted a 282 v r S S' → take a S ≡ Y ++ records t → Y ≡ X ++ W → take r S' ≡ X ++ (W ++ records (Node.default_def v t))
unfolding count
default_one X W v t {Y = Y} e f g = put 26 (one t) Y e (rw all_one f) refl ∙ ap (λ (y : List ℕ). y ++ records (Node.default_def v t)) g ∙ append_assoc X W (records (Node.default_def v t))

-- PARAMETERS: what is read of one joins those before it
joined_plain : (ps : Params) (x : Param) (k : ℕ) (q : List Error) (ts : List ℕ) → Plain (joined ps x k q ts)
unfolding joined
joined_plain ps (required v) k q ts = plain_if _ (λ u. plain_if _ (λ u. an_ok) (λ u. a_fail)) (λ u. a_fail)
joined_plain ps (variadic v) k q ts = plain_if _ (λ u. a_fail) (λ u. plain_if _ (λ u. an_ok) (λ u. a_fail))
joined_plain ps (default v e) k q ts = plain_if _ (λ u. an_ok) (λ u. a_fail)

join_step : (low : Depth) (n : ℕ) (ps : Params) (x : Param) (q : List Error) (ts : List ℕ) → then q (join ps x q ts) (λ ps₂ q₃ s. params low n ps₂ q₃ s) ≡ then q (look q ts) (λ tok₂ q₃ rest₂. then q (joined ps x tok₂.kind q ts) λ ps₂ q₄ s. ifb (eqb tok₂.kind Kind.Comma) (λ _. params low n ps₂ q rest₂) (λ _. params low n ps₂ q ts))
unfolding join
join_step low n ps x q ts =
    look_then q ts _ _ _ λ tok r. plain_then q (joined_plain ps x tok.kind q ts) _ _ _ λ ps₂ s. then_if q _ _ _ _ ∙ if_same _ (λ u. then_ok q _) (λ u. then_ok q _)

abbrev params_go : Depth → ℕ → Params → List Error → List ℕ → Res Params
params_go low n ps q ts = then q (param low q ts) λ x q₂ r. then q₂ (join ps x q₂ r) λ ps₂ q₃ s. params low n ps₂ q₃ s

module _ (low : Depth) (ps : Params) (q : List Error) where
  abbrev params_on : List ℕ → ℕ → Token → List Error → List ℕ → Res Params
  params_on ts n tok q₁ rest = ifb (eqb tok.kind Kind.CloseParen) (λ _. ok ps ts) λ _. params_go low n ps q ts

  params_suc : (n : ℕ) (ts : List ℕ) → params low (suc n) ps q ts ≡ then q (look q ts) (params_on ts n)
  unfolding params
  params_suc n ts = look_known q ts _ _ λ tok r e. if_same _ (λ u. refl) (λ u. then_same q _ λ x q₂ s. sym (join_step low n ps x q₂ s))

  params_step : (T : List ℕ) (fuel p : ℕ) → length T ≤ p + fuel → params low fuel ps q (drop p T) ≡ then q (look q (drop p T)) (params_on (drop p T) (fuel - 1))
  unfolding params
  params_step T fuel p enough = counted q (drop p T) (λ n. params low n ps q (drop p T)) (params_on (drop p T)) refl (λ n. params_suc n (drop p T)) fuel (left T p fuel enough)

  pub params_looks : (T : List ℕ) (fuel p : ℕ) → length T ≤ p + fuel → Looks q (drop p T) (params low fuel ps q (drop p T))
  params_looks T fuel p enough = record { go = _; is = params_step T fuel p enough }

  module _ {T : List ℕ} (fuel p : ℕ) (enough : length T ≤ p + fuel) {k n v : ℕ} (at : Taken T p k n v) where
    pub params_close : k ≡ Kind.CloseParen → params low fuel ps q (drop p T) ≡ ok ps (drop p T)
    unfolding then ifb
    params_close e = params_step T fuel p enough ∙ rw (at.same, eq-eqb _ _ e)

    pub params_more : (k ≡ Kind.CloseParen → ⊥) → params low fuel ps q (drop p T) ≡ params_go low (fuel - 1) ps q (drop p T)
    params_more e = params_step T fuel p enough ∙ ap (λ (d : Res Token). then q d (params_on (drop p T) (fuel - 1))) (at.same q) ∙ then_ok q _ ∙ other _ _ (ne_eqb _ _ e)

-- the words of a parameter with a default, behind those before
required_some : (m n : ℕ) → n ≡ 0 → required_words m n ≡ (1 + 256 * m) ∷ 0 ∷ []
unfolding required_words ifb
required_some m n e = rw (eq-eqb _ _ e)

required_none : (m n : ℕ) → (n ≡ 0 → ⊥) → required_words m n ≡ []
unfolding required_words ifb
required_none m n e = rw (ne_eqb _ _ e)

default_words_are : (r f : Forest) (m n : ℕ) (t : Tree) → count r ≡ m → count f ≡ n → words_of r f ++ (required_words m n ++ records t) ≡ words_of r (snoc f t)
unfolding count records snoc
default_words_are r none m n t e g = rw (required_some m n (sym g), ← e) (simp (append-nil, append_assoc))
default_words_are r (more u f) m n t e g = rw (required_none m n (λ z. omega arith), all_snoc f t) (simp append_assoc)

plain_text : (at a : ℕ) (S₀ S S₁ W : List ℕ) → take a S₁ ≡ take a S ++ [] → take a S ≡ take at S₀ ++ W → take a S₁ ≡ take at S₀ ++ W
plain_text at a S₀ S S₁ W e g = e ∙ append-nil (take a S) ∙ g

-- the text behind one with a default
default_text : (at a a₁ : ℕ) (c : Counts) (S₀ S S₁ : List ℕ) (ps : Params) (x : DefaultOne) → Fitting ps c → take a₁ S₁ ≡ take a S ++ default_words c.required c.default x → take a S ≡ take at S₀ ++ params_words ps → take a₁ S₁ ≡ take at S₀ ++ params_words (with_default ps x.name x.value)
default_text at a a₁ c S₀ S S₁ ps x fits e g =
    e ∙ ap (λ (y : List ℕ). y ++ default_words c.required c.default x) g ∙ append_assoc (take at S₀) (params_words ps) (default_words c.required c.default x)
    ∙ ap (λ (y : List ℕ). take at S₀ ++ y) (default_words_are ps.required_list ps.default_list c.required c.default (Node.default_def x.name x.value) fits.are_required fits.are_default)

-- what joins as a default is one
joins_default : (ps : Params) (x : ℕ) (e : Tree) (q : List Error) (ts : List ℕ) → Holds (λ p. p ≡ with_default ps x e) (join ps (default x e) q ts)
unfolding join joined
joins_default ps x e q ts = k_any q (look q ts) λ tok q₁ rest. k_on q (k_if _ (λ _. k_ok refl) (λ _. k_failed)) λ ps₂ q₂ s z. k_if _ (λ _. k_ok z) (λ _. k_ok z)

join_default : (ps : Params) (x : ℕ) (e : Tree) (q : List Error) (ts r : List ℕ) (ps₂ : Params) → join ps (default x e) q ts ≡ ok ps₂ r → ps₂ ≡ with_default ps x e
join_default ps x e q ts r ps₂ i = given (joins_default ps x e q ts) (way q i)

-- ONE ROUND of the loop
pub record Round (D : Res Params) (low : Depth) (fuel : ℕ) (T : List ℕ) (pos at : ℕ) (S₀ Q₀ : List ℕ) (p₀ p a : ℕ) (c : Counts) (S Q : List ℕ) : Type 0 where
  pub run : Wrote params_words D (params low fuel) T pos pos 8 at S₀ Q₀ p a S Q
  pub fits : Fitting run.what c
  pub few : 2 * (c.required + c.default) ≤ p
  pub below : NamedBelow c.variadic
  pub far : p₀ + 2 ≤ p

-- what was read joined those before it, of which there are so many
joins_round : {D : Res Params} (low : Depth) (fuel : ℕ) (before : Counts) {d : List Error → Res Params} {T : List ℕ} {pos at : ℕ} {S₀ Q₀ : List ℕ} {p p₁ a₁ : ℕ} {j : Joined} {S₂ Q Q₁ : List ℕ} → Moved (length T) pos p Q₀ Q → 2 * (before.required + before.default) ≤ p
    → As Q₀ D Q₁ (then Q₁ (d Q₁) (λ ps₂ q₃ r. params low fuel ps₂ q₃ r)) → Moved (length T) (p + 2) p₁ Q Q₁ → JoinsTo d (take at S₀) T p₁ before a₁ S₂ j → Room pos at 8 j.end.pos j.end.at → Round D low fuel T pos at S₀ Q₀ p j.end.pos j.end.at j.counts S₂ Q₁
joins_round low fuel before gm few o mv j room =
    let jg = j.got in
    let jf = j.few in
    let jo = jg.on in
    let ji = jg.within in
    record { run = record { what = jg.what; same = gets _ jg o; moved = omega arith; room = room; text = j.text }; fits = j.fits; few = omega arith; below = j.below; far = omega arith }

module _ {D : Res Params} (low : Depth) (fuel : ℕ) {T : List ℕ} {pos at : ℕ} {S₀ Q₀ : List ℕ} {p a : ℕ} {c : Counts} {S Q S₁ Q₁ S₂ : List ℕ} (g : Wrote params_words D (params low fuel) T pos pos 8 at S₀ Q₀ p a S Q) (fits : Fitting g.what c) (few : 2 * (c.required + c.default) ≤ p)
    (on : As Q₀ D Q (params_go low (fuel - 1) g.what Q (drop p T))) (start : at ≤ length S₀) (within : a ≤ length S) (same_length : length S₁ ≡ length S) (same_length₂ : length S₂ ≡ length S) (space : a + 8 * (length T - p) + 8 ≤ length S) where
  -- a parameter that writes nothing
  bare : {make : ℕ → Param} {p₁ x : ℕ} {n : Joined} → ParameterAt make (param low Q (drop p T)) T p a S Q p₁ x S₁ Q₁ → JoinsTo (λ q. join g.what (make x) q (drop p₁ T)) (take at S₀) T p₁ c a S₂ n → Round D low (fuel - 1) T pos at S₀ Q₀ p n.end.pos n.end.at n.counts S₂ Q₁
  bare h j =
      let mv = h.run.moved in
      let gr = g.room in
      let ju = j.up in
      let jr = j.far in
      let jo = j.got.on in
      joins_round low (fuel - 1) c g.moved few (goes _ on h.run.same) mv j (omega arith)

  -- one with a default
  full : {p₁ a₁ : ℕ} {n : Joined} (h : Wrote (default_words c.required c.default) (param low Q (drop p T)) (λ x q r. ok (default x.name x.value) r) T p (p + 2) 8 a S Q p₁ a₁ S₁ Q₁)
      → JoinsTo (λ q. join g.what (default h.what.name h.what.value) q (drop p₁ T)) (take at S₀) T p₁ c a₁ S₂ n → Round D low (fuel - 1) T pos at S₀ Q₀ p n.end.pos n.end.at n.counts S₂ Q₁
  full {p₁} {a₁} {n} h j =
      let mv = h.moved in
      let hr = h.room in
      let gr = g.room in
      let jg = j.got in
      let ju = j.up in
      let jr = j.far in
      let jo = jg.on in
      let ji = jg.within in
      let W : List ℕ = params_words (with_default g.what h.what.name h.what.value) in
      let c₁ : a₁ ≡ at + length W = grown S₀ S₁ W at a₁ (default_text at a a₁ c S₀ S S₁ g.what h.what fits h.text g.text) start (omega arith) in
      let i : jg.what ≡ with_default g.what h.what.name h.what.value = join_default g.what h.what.name h.what.value [] (drop p₁ T) (drop n.end.pos T) jg.what (jg.same []) in
      let d : n.end.at ≡ at + length W = grown S₀ S₂ W at n.end.at (j.text ∙ ap (λ (ps : Params). take at S₀ ++ params_words ps) i) start (omega arith) in
      joins_round low (fuel - 1) c g.moved few (goes _ on h.same) mv j (omega arith)

  pub round : {one : Parameter} {n : Joined} → ParamsRead (param low Q (drop p T)) T p c.required c.default a S Q S₁ Q₁ (Ok one) → JoinedBy T c a S₁ S₂ one (Ok n) → Round D low (fuel - 1) T pos at S₀ Q₀ p n.end.pos n.end.at n.counts S₂ Q₁
  round {one = PRequired p₁ x} h j = bare h.how (j.how (take at S₀) g.what fits (plain_text at a S₀ S S₁ (params_words g.what) h.how.run.text g.text)).how
  round {one = PVariadic p₁ x} h j = bare h.how (j.how (take at S₀) g.what fits (plain_text at a S₀ S S₁ (params_words g.what) h.how.run.text g.text)).how
  round {one = PDefault end} h j = let k = h.how in full k (j.how (take at S₀) g.what k.what.name k.what.value fits (default_text at a end.at c S₀ S S₁ g.what k.what fits k.text g.text)).how

  -- none joined
  not_joined : {d : List Error → Res Params} {p₁ : ℕ} {h : Halt} (W : List ℕ) (a₁ : ℕ) → As Q₀ D Q₁ (then Q₁ (d Q₁) (λ ps₂ q₃ r. params low (fuel - 1) ps₂ q₃ r)) → Moved (length T) (p + 2) p₁ Q Q₁ → take a₁ S₁ ≡ take at S₀ ++ W → Unjoined d T p₁ S₁ S₂ h → Failed D T pos pos at S₀ Q₀ S₂ Q₁ h
  not_joined W a₁ o mv t u =
      let gm = g.moved in
      lacks _ u.unread o (ap (take at) u.text ∙ prefix_of S₀ S₁ W at a₁ t start) (omega arith)

  pub unjoined : {h : Halt} {one : Parameter} → ParamsRead (param low Q (drop p T)) T p c.required c.default a S Q S₁ Q₁ (Ok one) → JoinedBy T c a S₁ S₂ one (Err h) → Failed D T pos pos at S₀ Q₀ S₂ Q₁ h
  unjoined {one = PRequired p₁ x} h j =
      let k = h.how.run in
      let t = plain_text at a S₀ S S₁ (params_words g.what) k.text g.text in
      not_joined (params_words g.what) a (goes _ on k.same) k.moved t (j.how (take at S₀) g.what fits t).how
  unjoined {one = PVariadic p₁ x} h j =
      let k = h.how.run in
      let t = plain_text at a S₀ S S₁ (params_words g.what) k.text g.text in
      not_joined (params_words g.what) a (goes _ on k.same) k.moved t (j.how (take at S₀) g.what fits t).how
  unjoined {one = PDefault end} h j =
      let k = h.how in
      let t = default_text at a end.at c S₀ S S₁ g.what k.what fits k.text g.text in
      not_joined (params_words (with_default g.what k.what.name k.what.value)) end.at (goes _ on k.same) k.moved t (j.how (take at S₀) g.what k.what.name k.what.value fits t).how

-- where the loop begins
abbrev pub no_params : Params
no_params = record { required_list = none; default_list = none; variadic_one = Node.absent }

pub none_fit : Fitting no_params (record { required = 0; default = 0; variadic = None })
unfolding count
none_fit = record { are_required = refl; are_default = refl; is_variadic = refl }

pub no_words_yet : (X : List ℕ) → X ≡ X ++ params_words no_params
unfolding records
no_words_yet X = sym (append-nil X)
