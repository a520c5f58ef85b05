-- The records of a tree whose kinds are below 256 decode to it, and what decodes to a tree is its records; the number of records is that of the nodes.
-- Assumes nothing.
use Rattle.std.specs.Prelude.{◌≡◌, refl, List, [], ◌∷◌, ◌++◌, ℕ, zero, suc, ◌+◌, ◌*◌, ◌/◌, ◌%◌, ◌≤◌, ◌<◌, length, Option, Some, None, option_and_then}
use Rattle.std.proofs.Common.{sym, ap, ◌∙◌, append_assoc, append-nil, arith, length-append}
use Rattle.std.proofs.lemmas.Option.{none-some, same_Some}
use Rattle.tree.specs.Tree.{Tree, Forest, node, none, more, count, records, all_records}
use Rattle.tree.specs.Decode.{gather, stacked, alone, decode}

-- every kind fits its byte, so that a record's first word says kind and count
unfoldable mutual
  pub Small : Tree → Type 0
  Small (node k v f) = (k < 256) × Smalls f

  pub Smalls : Forest → Type 0
  Smalls none = Unit {0}
  Smalls (more t f) = Small t × Smalls f

-- the number of nodes
unfoldable mutual
  pub size : Tree → ℕ
  size (node k v f) = suc (sizes f)

  pub sizes : Forest → ℕ
  sizes none = 0
  sizes (more t f) = size t + sizes f

pub size_positive : (t : Tree) → 1 ≤ size t
unfolding size
size_positive (node k v f) = omega arith

mutual
  unfolding records size

  pub records_length : (t : Tree) → length (records t) ≡ 2 * size t
  records_length (node k v f) = rw length-append (omega (arith, all_records_length f))

  all_records_length : (f : Forest) → length (all_records f) ≡ 2 * sizes f
  all_records_length none = refl
  all_records_length (more t f) = rw length-append (omega (arith, records_length t, all_records_length f))

-- the trees of a forest, pushed on a stack
unfoldable pub back : Forest → List Tree → List Tree
back none s = s
back (more t f) s = back f (t ∷ s)

-- a forest in front of another one
over : Forest → Forest → Forest
over none g = g
over (more t f) g = more t (over f g)

over_none : (f : Forest) → over f none ≡ f
unfolding over
over_none none = refl
over_none (more t f) = ap (more t) (over_none f)

-- the children that were pushed are gathered again
gather_back : (f : Forest) (n k v : ℕ) (g : Forest) (s : List Tree) → gather (count f + n) k v g (back f s) ≡ gather n k v (over f g) s
unfolding count back over gather
gather_back none n k v g s =
    let e : 0 + n ≡ n = omega arith in
    rw e
gather_back (more t f) n k v g s =
    let e : suc (count f) + n ≡ count f + suc n = omega arith in
    rw e (gather_back f (suc n) k v g (t ∷ s))

mutual
  unfolding records Small gather stacked back

  stacked_tree : (t : Tree) → Small t → (r : List ℕ) (s : List Tree) → stacked (records t ++ r) s ≡ stacked r (t ∷ s)
  stacked_tree (node k v f) = λ h r s.
      let kind : (k + 256 * count f) % 256 ≡ k = omega arith in
      let many : (k + 256 * count f) / 256 ≡ count f + 0 = omega arith in
      rw append_assoc (stacked_forest f h.1 ((k + 256 * count f) ∷ v ∷ r) s ∙ rw (kind, many, gather_back f 0 k v none s, over_none))

  stacked_forest : (f : Forest) → Smalls f → (r : List ℕ) (s : List Tree) → stacked (all_records f ++ r) s ≡ stacked r (back f s)
  stacked_forest none = λ h r s. refl
  stacked_forest (more t f) = λ h r s. rw append_assoc (stacked_tree t h.0 (all_records f ++ r) s ∙ stacked_forest f h.1 r (t ∷ s))

pub decode_records : {t : Tree} → Small t → decode (records t) ≡ Some t
unfolding decode stacked
decode_records {t} h = rw (← append-nil (records t), stacked_tree t h [] [])

pub records_same : {t u : Tree} → Small t → Small u → records t ≡ records u → t ≡ u
records_same a b e = cc (decode_records a, decode_records b)

-- the trees of a stack, the last one on top: their records and their kinds
unfoldable pub stack_records : List Tree → List ℕ
stack_records [] = []
stack_records (t ∷ s) = stack_records s ++ records t

unfoldable pub StackSmall : List Tree → Type 0
StackSmall [] = Unit {0}
StackSmall (t ∷ s) = Small t × StackSmall s

-- the records of a stack are no other stack's
stacked_stack : (s : List Tree) → StackSmall s → (r : List ℕ) → stacked (stack_records s ++ r) [] ≡ stacked r s
unfolding stack_records StackSmall
stacked_stack [] h r = refl
stacked_stack (t ∷ s) h r = rw append_assoc (stacked_stack s h.1 (records t ++ r) ∙ stacked_tree t h.0 r s)

pub stack_same : {s u : List Tree} → StackSmall s → StackSmall u → stack_records s ≡ stack_records u → s ≡ u
unfolding stacked
stack_same {s} {u} a b e = same_Some _ _ (sym (stacked_stack s a []) ∙ rw e (stacked_stack u b []))

-- of a chain that gave something, what its first part gave
pub bound : {A B : Type 0} {k : A → Option B} {b : B} (m : Option A) → option_and_then k m ≡ Some b → (a : A) × (m ≡ Some a) × (k a ≡ Some b)
bound None e = absurd (none-some _ e)
bound (Some a) e = (a, refl, e)

gather_text : (n k v : ℕ) (f : Forest) (s : List Tree) {u : List Tree} → k < 256 → Smalls f → StackSmall s → gather n k v f s ≡ Some u
    → (stack_records u ≡ stack_records s ++ (all_records f ++ (k + 256 * (n + count f)) ∷ v ∷ [])) × StackSmall u
unfolding gather count records Small stack_records StackSmall
gather_text zero k v f s h a b e =
    let z : 0 + count f ≡ count f = omega arith in
    rw (← same_Some _ _ e, z) (refl, ((h, a), b))
gather_text (suc n) k v f [] h a b e = absurd (none-some _ e)
gather_text (suc n) k v f (t ∷ s) h a b e =
    let g = gather_text n k v (more t f) s h (b.0, a) b.1 e in
    let z : n + suc (count f) ≡ suc n + count f = omega arith in
    (g.0 ∙ rw z (simp append_assoc), g.1)

stacked_text : (ws : List ℕ) (s : List Tree) {u : List Tree} → StackSmall s → stacked ws s ≡ Some u → (stack_records u ≡ stack_records s ++ ws) × StackSmall u
unfolding stacked records count Small
stacked_text [] s h e = rw (← same_Some _ _ e) (sym (append-nil _), h)
stacked_text (w ∷ []) s h e = absurd (none-some _ e)
stacked_text (w ∷ v ∷ r) s h e =
    let b = bound (gather (w / 256) (w % 256) v none s) e in
    let g = gather_text (w / 256) (w % 256) v none s (omega arith) tt h b.1 in
    let x = stacked_text r b.0 g.1 b.2 in
    let z : w % 256 + 256 * (w / 256 + 0) ≡ w = omega arith in
    (x.0 ∙ rw (g.0, z, append_assoc), x.1)

alone_is : (s : List Tree) {t : Tree} → alone s ≡ Some t → s ≡ t ∷ []
alone_is [] e = absurd (none-some _ e)
alone_is (t ∷ []) e = ap (λ x. x ∷ []) (same_Some _ _ e)
alone_is (t ∷ u ∷ s) e = absurd (none-some _ e)

pub decode_text : {ws : List ℕ} {t : Tree} → decode ws ≡ Some t → (records t ≡ ws) × Small t
unfolding decode stack_records StackSmall
decode_text {ws} e =
    let b = bound (stacked ws []) e in
    let x = stacked_text ws [] tt (b.1 ∙ ap Some (alone_is b.0 b.2)) in
    (x.0, x.1.0)
