-- `nodes::fields::required_end` meets its contract. Assumes nothing.
use Rattle.nodes.proofs.Names.{no_words_more, list_more}
use Rattle.nodes.proofs.fields.required_end.Goals as goal

pub returns-then-counts-eq0 : goal.returns-then-counts-eq0
returns-then-counts-eq0 c = list_more _ c.if-counts-eq0.true c.list_end.ensures

pub returns : goal.returns
returns c = no_words_more _ c.if-counts-eq0.false
