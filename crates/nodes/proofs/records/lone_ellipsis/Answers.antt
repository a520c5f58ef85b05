-- `nodes::records::lone_ellipsis` meets its contract: by the kind of the tree before, and then by the word under it. Assumes nothing.
use mathlib.Core.Path.{sym, ◌∙◌}
use native.Mathlib.Omega.{arith}
use Rattle.nodes.proofs.Ends.{two_deep, four_deep, not_lone, by_word}
use Rattle.nodes.proofs.records.lone_ellipsis.Goals as goal

pub kind_of-requires : goal.kind_of-requires
kind_of-requires c = let p = c.requires in
    let d = two_deep c.args.store.now p.before c.args.a p.within p.tree p.text in
    (omega arith, omega arith)

pub returns-then-kind_of-ne-UNPACK : goal.returns-then-kind_of-ne-UNPACK
returns-then-kind_of-ne-UNPACK c = λ X t s text. not_lone c.args.store.now X c.args.a c.requires.within s (λ x. c.if-kind_of-ne-UNPACK.true (c.kind_of.ensures ∙ x)) text

pub overflow_sub-result : goal.overflow_sub-result
overflow_sub-result c = let p = c.requires in
    four_deep c.args.store.now p.before c.args.a p.within p.shape (sym c.kind_of.ensures ∙ c.if-kind_of-ne-UNPACK.false) p.text

pub returns : goal.returns
returns c = λ X t s text. by_word c.args.store.now X c.args.a c.requires.within s (sym c.kind_of.ensures ∙ c.if-kind_of-ne-UNPACK.false) text
