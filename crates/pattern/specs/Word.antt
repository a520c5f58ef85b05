-- The first words of the records that become a pattern's, and of those that are: the kind + 256 × the count of the children. Assumes nothing.
use Rattle.std.specs.Prelude.{ℕ, ◌+◌}
use Rattle.tree.specs.NodeKind

abbrev pub Absent : ℕ
Absent = NodeKind.Absent

abbrev pub Identifier : ℕ
Identifier = NodeKind.Identifier

abbrev pub Attribute : ℕ
Attribute = NodeKind.Attribute

abbrev pub Unpack : ℕ
Unpack = NodeKind.Unpack + 256

abbrev pub Tuple : ℕ
Tuple = NodeKind.Tuple + 256

abbrev pub Group : ℕ
Group = NodeKind.Group + 256

abbrev pub Index : ℕ
Index = NodeKind.Index + 256

abbrev pub Primary : ℕ
Primary = NodeKind.Primary + 512

abbrev pub IdentifierPattern : ℕ
IdentifierPattern = NodeKind.IdentifierPattern

abbrev pub AttributePattern : ℕ
AttributePattern = NodeKind.AttributePattern + 256

abbrev pub IndexPattern : ℕ
IndexPattern = NodeKind.IndexPattern + 512

abbrev pub TuplePattern : ℕ
TuplePattern = NodeKind.TuplePattern + 256

abbrev pub Pack : ℕ
Pack = NodeKind.Pack + 256

abbrev pub Modifier : ℕ
Modifier = NodeKind.Modifier + 256
