-- The records of nodes, as the code writes them. Assumes nothing.
use mathlib.Core.Path.{◌≡◌, sym}
use mathlib.Core.List.{◌++◌, append_assoc, append-nil}
use Rattle.tree.specs.Tree.{Tree, Forest, none, more, count, records}
use Rattle.tree.specs.Node
use Rattle.grammar.specs.Reading.Primary.{with_path}
use Rattle.nodes.specs.Parts.{tuple_words, path_words}

pub tuple_text : (t : Tree) (g : Forest) → records (Node.tuple (more t g)) ≡ records t ++ tuple_words g
unfolding records count
tuple_text t g = simp (append-nil, append_assoc)

pub path_text : (t : Tree) (f : Forest) → records (with_path t f) ≡ records t ++ path_words f
unfolding records count
path_text t none = sym (append-nil (records t))
path_text t (more i f) = simp (append-nil, append_assoc)
