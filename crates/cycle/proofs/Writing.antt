-- Combinators over the contracts of functions that write to the store and do not see the queue. Assumes nothing.
use mathlib.Core.Path.{◌≡◌, refl, ap, ◌∙◌}
use mathlib.Core.Bool.{Bool, true, false}
use mathlib.Core.List.{List, [], ◌∷◌, ◌++◌, append_assoc}
use Prim.Native.Nat.{ℕ, ◌+◌, ◌*◌, ◌-◌, ◌≤◌}
use native.Mathlib.Omega.{arith}
use lib.ListN.{length, take, drop, length-append}
use Rattle.tree.specs.Tree.{Tree, Forest, node, one, two, count, records, all_records}
use Rattle.tree.specs.Node
use Rattle.tree.specs.Store.{Emitted}
use Rattle.tree.specs.Records.{Small}
use Rattle.pattern.specs.Contract.{Whole}
use Rattle.grammar.specs.Reading.Result.{Res, fail, then, ifb, Error}
use Rattle.scan.specs.Post.{As, Moved, Room, Failed, Wrote, Agrees, Stored, Unstored, Writes, NumberAt, itself}
use Rattle.nodes.specs.Ends.{Added}
use Rattle.cycle.specs.Parts.{list_words}
use Rattle.std.proofs.Common.{Result, Ok, Err}
use Rattle.scan.specs.declared.Cursor.{Cursor}
use Rattle.scan.specs.declared.Halt.{Halt}
use Rattle.scan.specs.declared.Halt.TheVariants.{Fail}
use Rattle.scan.proofs.Laws.{way, link, Beyond, lacks, lacking, gets, shorter, rebased}
use Rattle.scan.proofs.Text.{up_of, prefix_of}
use Rattle.nodes.proofs.Made.{put, all_one, all_two}

module _ {A : Type 0} {words : A → List ℕ} {d : List Error → Res A} {T : List ℕ} {pos least most at : ℕ} {X S S' : List ℕ} where
  pub stored : {c : Cursor} → Writes words d T pos least most at X S S' (Ok c) → Stored words d T least most at X c.pos c.at S'
  stored r = r.how

  pub unstored : {h : Halt} → Writes words d T pos least most at X S S' (Err h) → Unstored d T pos least S S' h
  unstored r = r.how

-- numbers of a last call that writes, at most so many words behind a₁, in a store of m words
pub record WrittenFrom (pos least slack at p₁ least₁ most a₁ m : ℕ) (Q Q₁ : List ℕ) : Type 0 where
  pub pos_le : pos ≤ p₁
  pub least_le : least ≤ least₁
  pub w_le : length Q ≤ length Q₁
  pub at_in : at ≤ m
  pub slack_le : a₁ + most + 8 * pos + slack ≤ at + 8 * least₁ + 8

-- D is at last d, which a last call read and wrote
pub written : {A : Type 0} {words : A → List ℕ} {D : Res A} {d : List Error → Res A} {T : List ℕ} {pos least slack at : ℕ} {S Q : List ℕ} {p₁ least₁ most a₁ : ℕ} {X S₁ S' Q₁ : List ℕ} {r : Result Cursor Halt}
    → Writes words d T p₁ least₁ most a₁ X S₁ S' r → X ≡ take at S → As Q D Q₁ (d Q₁) → take at S₁ ≡ take at S → WrittenFrom pos least slack at p₁ least₁ most a₁ (length S) Q Q₁ → Agrees words D T pos least slack at S Q S' Q₁ r
written {words = words} {at = at} {S = S} {S' = S'} {r = Ok c} h x s y t =
    let u = h.how in
    let g = u.got in
    let on = g.on in
    let within = g.within in
    let far = u.far in
    let text : take c.at S' ≡ take at S ++ words g.what = u.text ∙ rw x in
    let up = up_of S S' (words g.what) at c.at text t.at_in in
    record { how = record { what = g.what; same = link s (way _ (g.same _)); moved = omega arith; room = omega arith; text = text } }
written {r = Err h} f x s y t = rw f.how.text (record { how = lacking f.how.unread s y (omega arith) })

-- an error of the function's own
pub fails_with : {A : Type 0} {words : A → List ℕ} {D : Res A} {T : List ℕ} {pos least slack at e p : ℕ} {S Q : List ℕ} → D ≡ fail e Q (drop p T) → Moved (length T) pos p Q Q → least ≤ p + (least + 1 - length T) → Agrees words D T pos least slack at S Q S Q (Err (Fail (record { error = e; pos = p })))
fails_with {Q = Q} e m f = record { how = record { how = record { same = way Q e; moved = m; far = f; text = refl } } }

-- a function that may answer either way
pub either_way : {A : Type 0} {words : A → List ℕ} {D : Res A} {T : List ℕ} {pos least slack at : ℕ} {S Q S' Q' : List ℕ} {x y r : Result Cursor Halt} (b : Bool) → (b ≡ true → Agrees words D T pos least slack at S Q S' Q' x) → (b ≡ false → Agrees words D T pos least slack at S Q S' Q' y) → r ≡ ifb b (λ _. x) (λ _. y) → Agrees words D T pos least slack at S Q S' Q' r
unfolding ifb
either_way true f g e = rw e (f refl)
either_way false f g e = rw e (g refl)

-- a number that was read
pub told : {B : Type 0} {D : Res B} {d : List Error → Res ℕ} {T : List ℕ} {least bound p v : ℕ} {q q₁ : List Error} (k : ℕ → List Error → List ℕ → Res B) (x : NumberAt itself d T least bound p v) → As q D q₁ (then q₁ (d q₁) k) → As q D q₁ (k v q₁ (drop p T))
told {T = T} {p = p} {q₁ = q₁} k x a = link (gets k x.got a) (way _ (ap (λ (n : ℕ). k n q₁ (drop p T)) x.is))

-- a tree has words
pub words_some : (t : Tree) → 2 ≤ length (records t)
unfolding records
words_some (node k v f) = rw length-append (omega arith)

pub taller : {C : Type 0} {d : Res C} {k : Tree → List Error → List ℕ → Res C} {T : List ℕ} {pos least slack at : ℕ} {S Q : List ℕ} {p a : ℕ} {S' Q' : List ℕ} (g : Wrote records d k T pos least slack at S Q p a S' Q') → at ≤ length S → at + 2 ≤ a
taller {at = at} {S = S} {a = a} {S' = S'} g h =
    let n = up_of S S' (records g.what) at a g.text h in
    let i = words_some g.what in
    omega arith

-- kids one after the other
pub kids_two : (Z : List ℕ) (t u : Tree) {X Y : List ℕ} → Y ≡ Z ++ records t → X ≡ Y ++ records u → X ≡ Z ++ all_records (two t u)
kids_two Z t u e h = h ∙ rw (e, all_two, append_assoc)

module _ {E : Type 0} {D : Res E} {T : List ℕ} {pos least slack at : ℕ} {S Q : List ℕ} {q r : ℕ} {S'' Q'' : List ℕ} where
  -- a record over a forest
  pub made_over : {K : Tree → List Error → List ℕ → Res E} {v word a : ℕ} {S' : List ℕ} (k : ℕ) (f : Forest) → Emitted a word v r S' S'' → take a S' ≡ take at S ++ all_records f → As Q D Q'' (K (node k v f) Q'' (drop q T)) → Moved (length T) least q Q Q'' → Room pos at slack q r → word ≡ k + 256 * count f → Wrote records D K T pos least slack at S Q q r S'' Q''
  made_over {v = v} k f e x same moved room i = record { what = node k v f; same = same; moved = moved; room = room; text = put k f (take at S) e x i }

  -- words that are x's
  pub made_added : {A : Type 0} {words' : A → List ℕ} {K : A → List Error → List ℕ → Res E} {most : ℕ} {words : List ℕ} (x : A) → Added at most words r S S'' → words ≡ words' x → As Q D Q'' (K x Q'' (drop q T)) → Moved (length T) least q Q Q'' → Room pos at slack q r → Wrote words' D K T pos least slack at S Q q r S'' Q''
  made_added x e i same moved room = record { what = x; same = same; moved = moved; room = room; text = e.text ∙ rw i }

-- a node over the list that was written
pub made_list : {E C : Type 0} {D : Res E} {K : Tree → List Error → List ℕ → Res E} {T : List ℕ} {pos least slack at : ℕ} {S Q : List ℕ} {q r : ℕ} {S'' Q'' : List ℕ} (k : ℕ) {v word : ℕ} {d : Res C} {k' : Forest → List Error → List ℕ → Res C} {pos' least' slack' : ℕ} {Q₁ : List ℕ} {p a : ℕ} {S' Q' : List ℕ}
    (g : Wrote list_words d k' T pos' least' slack' at S Q₁ p a S' Q') → Emitted a word v r S' S'' → As Q D Q'' (K (node k v (one (Node.list g.what))) Q'' (drop q T)) → Moved (length T) least q Q Q'' → Room pos at slack q r → word ≡ k + 256
    → Wrote records D K T pos least slack at S Q q r S'' Q''
unfolding count
made_list {at = at} {S = S} k {v = v} g e same moved room i = record { what = node k v (one (Node.list g.what)); same = same; moved = moved; room = room; text = put k (one (Node.list g.what)) (take at S) e (rw all_one g.text) i }

-- what was stored behind what stands before «at»: that stays, and it is not before «at»
module _ {A : Type 0} {words : A → List ℕ} {d : List Error → Res A} {T : List ℕ} {least most a₁ p a : ℕ} {S' : List ℕ} (at : ℕ) (S : List ℕ) (s : Stored words d T least most a₁ (take at S) p a S') (h : at ≤ length S) where
  pub stored_prefix : take at S' ≡ take at S
  stored_prefix = prefix_of S S' (words s.got.what) at a s.text h

  pub stored_up : at ≤ a
  stored_up =
      let u = up_of S S' (words s.got.what) at a s.text h in
      omega arith

-- words that were added, or a record, leave what stands before them
pub added_prefix : {at most r : ℕ} {words S S' : List ℕ} → Added at most words r S S' → at ≤ length S → take at S' ≡ take at S
added_prefix {at} {most} {r} {words} {S} {S'} e h = prefix_of S S' words at r e.text h

pub emitted_before : {at word v r : ℕ} {S S₁ : List ℕ} → Emitted at word v r S S₁ → at ≤ length S → (S₂ : List ℕ) → take r S₂ ≡ take r S₁ → take at S₂ ≡ take at S
emitted_before {at} {word} {v} {r} {S} {S₁} e h S₂ x =
    let n = e.next in
    shorter S₂ S₁ at r (omega arith) x ∙ prefix_of S S₁ (word ∷ v ∷ []) at r e.text h

-- D goes on by k from d, which failed and wrote nothing
pub unstored_fails : {A B : Type 0} {D : Res B} {d : List Error → Res A} {T : List ℕ} {pos least at : ℕ} {S Q : List ℕ} {p least₁ : ℕ} {S₁ S' Q' : List ℕ} {h : Halt} (k : A → List Error → List ℕ → Res B) → Unstored d T p least₁ S₁ S' h → As Q D Q' (then Q' (d Q') k) → take at S₁ ≡ take at S
    → Beyond pos least p least₁ Q Q' → Failed D T pos least at S Q S' Q' h
unstored_fails k u a x b = rw u.text (lacks k u.unread a x b)

-- the tree that was written stands there
pub stands : {C : Type 0} {d : Res C} {k : Tree → List Error → List ℕ → Res C} {T : List ℕ} {pos least slack at : ℕ} {S Q : List ℕ} {p a : ℕ} {S' Q' : List ℕ} (g : Wrote records d k T pos least slack at S Q p a S' Q') → Small g.what → at ≤ length S → a ≤ length S' → Whole g.what S' at a
stands g s h i = record { small = s; text = rebased g h; start = g.room.up; within = i }
