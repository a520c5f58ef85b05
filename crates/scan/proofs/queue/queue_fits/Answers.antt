-- `scan::queue::queue_fits` meets its contract: the definition goes place by place, the code through the used places and then through the others. Assumes nothing.
use mathlib.Core.Path.{◌≡◌, refl, sym, ap, ◌∙◌}
use mathlib.Core.Bool.{Bool, true, false, ◌&&◌}
use mathlib.Core.List.{List, [], ◌∷◌}
use Prim.Native.Nat.{ℕ, zero, suc, ◌-◌}
use lib.Dec.{eqb}
use lib.ListN.{length, take, drop, length-drop}
use lib.Seq.{take-length}
use Rattle.grammar.specs.Reading.Limit.{queue_limit}
use Rattle.std.specs.List.{list_all}
use Rattle.grammar.specs.Reading.Result.{ifb}
use Rattle.grammar.specs.Reading.Next.{is_error, queue_fits}
use Rattle.std.proofs.Common.{rules}
use Rattle.scan.proofs.queue.queue_fits.Goals as goal

abbrev is_zero : ℕ → Bool
is_zero e = eqb e 0

both : (b : Bool) {x y : Bool} → x ≡ y → ifb b (λ _. x) (λ _. false) ≡ (b && y)
unfolding ifb
both true e = e
both false e = refl

both_more : (b y z : Bool) {x : Bool} → x ≡ (y && z) → ifb b (λ _. x) (λ _. false) ≡ ((b && y) && z)
unfolding ifb
both_more true y z e = e
both_more false y z e = refl

in_two : (w : ℕ) (Q : List ℕ) → queue_fits w Q ≡ (list_all is_error (take w Q) && list_all is_zero (drop w Q))
unfolding queue_fits
in_two zero [] = refl
in_two zero (e ∷ es) = both (is_zero e) (in_two zero es)
in_two (suc w) [] = refl
in_two (suc w) (e ∷ es) = both_more (is_error e) (list_all is_error (take w es)) (list_all is_zero (drop w es)) (in_two w es)

-- the used places decide, and where these hold errors the others
used : (w : ℕ) (Q : List ℕ) {b : Bool} → list_all is_error (take w Q) ≡ b → queue_fits w Q ≡ (b && list_all is_zero (drop w Q))
used w Q e = in_two w Q ∙ ap (λ (b : Bool). b && list_all is_zero (drop w Q)) e

others : (w : ℕ) (Q : List ℕ) → length Q ≡ queue_limit → take (queue_limit - w) (drop w Q) ≡ drop w Q
others w Q h = let e : queue_limit - w ≡ length (drop w Q) = rw (length-drop, h) in rw (e, take-length)

pub returns-then-all_errors : goal.returns-then-all_errors
returns-then-all_errors c = c.all_zeros.ensures ∙ ap (list_all is_zero) (others c.args.waiting c.args.queue (search rules)) ∙ sym (used c.args.waiting c.args.queue (sym c.all_errors.ensures ∙ c.if-all_errors.true))

pub returns-else-all_errors : goal.returns-else-all_errors
returns-else-all_errors c = c.if-all_errors.false ∙ sym (used c.args.waiting c.args.queue (sym c.all_errors.ensures ∙ c.if-all_errors.false))
