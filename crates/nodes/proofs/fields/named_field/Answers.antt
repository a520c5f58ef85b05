-- `nodes::fields::named_field` meets its contract. Assumes nothing.
use mathlib.Core.Path.{refl}
use native.Mathlib.Omega.{arith}
use borrow.Author.Tests.{ne_eqb}
use Rattle.token.specs.Kind
use Rattle.tree.specs.NodeKind
use Rattle.tree.specs.Node
use Rattle.grammar.specs.Reading.Result.{ifb}
use Rattle.nodes.specs.Parts.{named_field}
use Rattle.nodes.proofs.Ends.{wrote, refused}
use Rattle.nodes.proofs.Names.{same_writes, leaf}
use Rattle.nodes.proofs.fields.named_field.Goals as goal

pub returns-in-48 : goal.returns-in-48
unfolding named_field ifb
returns-in-48 c =
    same_writes (λ q. rw c.in-48.is) c.field_name.ensures (omega arith)

pub returns-in-47 : goal.returns-in-47
unfolding named_field ifb
returns-in-47 c =
    same_writes (λ q. rw c.in-47.is) c.field_name-in-47.ensures (omega arith)

pub returns-in-69 : goal.returns-in-69
unfolding named_field ifb
returns-in-69 c =
    let e = c.emit.ensures in
    wrote (Node.field_attribute (Node.named c.args.value 0)) (λ q. rw c.in-69.is) c.requires.0 (omega (arith, e.next)) (leaf NodeKind.FieldAttribute e (omega arith) refl)

pub returns-in_default : goal.returns-in_default
unfolding named_field ifb
returns-in_default c = refused (λ q. rw (ne_eqb c.args.kind Kind.Var (search), ne_eqb c.args.kind Kind.Let (search), ne_eqb c.args.kind Kind.Identifier (search))) c.requires.0
