-- `Words::lay`: a layer more behind the others. Assumes nothing.
use Rattle.std.proofs.Common.{◌≡◌, sym, ap, ◌∙◌, List, ◌++◌, ℕ, zero, suc, ◌+◌, append_assoc, append-nil, arith}
use Rattle.std.specs.List.{repeat}
use Rattle.limits.proofs.words.Words.lay.Goals as goal

-- once more behind so many times is so many times and once more
once_more : (n : ℕ) (xs : List ℕ) → repeat (n + 1) xs ≡ repeat n xs ++ xs
once_more zero xs = append-nil xs
once_more (suc n) xs = let e : suc n + 1 ≡ suc (n + 1) = omega arith in rw e (ap (λ l. xs ++ l) (once_more n xs) ∙ sym (append_assoc xs (repeat n xs) xs))

pub loop-init : goal.loop-init
loop-init c = record { far = omega arith; put = rw append-nil }

pub loop-preserved : goal.loop-preserved
loop-preserved c =
    let layer = c.args.layer.now in
    record {
      far = omega (arith, c.loop-test.true);
      put = rw (once_more c.loop.counter layer) (c.in_ok-put.ensures ∙ ap (λ l. l ++ layer) c.loop.invariant.put ∙ append_assoc _ (repeat c.loop.counter layer) layer);
    }

pub returns : goal.returns
returns c =
    let all : c.loop.counter ≡ c.args.times = omega (arith, c.loop.invariant.far, c.loop-test.false) in
    rw all at c.loop.invariant.put
