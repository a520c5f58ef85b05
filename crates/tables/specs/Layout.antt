-- What the code writes of any tree, and whether a depth is enough for it, by the tables. Definitions; they assume nothing.
use Rattle.std.specs.Prelude.{Bool, true, ◌&&◌, List, ◌∷◌, ℕ, suc, ◌-◌, eqb, leb}
use Rattle.tree.specs.NodeKind
use Rattle.tree.specs.Tree.{Tree, Forest, node, none, more, count}
use Rattle.tables.specs.Choice.{when◌then◌else◌}
use Rattle.tables.specs.Check.{function_form, signature_mode}
use Rattle.tables.specs.Operators.{NoToken}
use Rattle.tables.specs.Form.{Fun, fun_gives, place_of, base, deeper}
use Rattle.tables.specs.Children.{kind_in, last_tree}
use Rattle.tables.specs.Tokens.{first_token, second_token, third_token, after_token, behind_token, last_token, carried}

-- one token, or none
unfoldable pub emit : ℕ → ℕ → List ℕ → List ℕ
emit c v r = when eqb c NoToken then r else c ∷ v ∷ r

-- the tokens before a node's children, and those behind them
unfoldable pub opened : ℕ → ℕ → ℕ → List ℕ → List ℕ
opened kind value form r =
    emit (first_token kind value form) (carried kind value (first_token kind value form))
    (emit (second_token kind value) (carried kind value (second_token kind value))
    (emit (third_token kind) 0 r))

unfoldable pub closed : ℕ → ℕ → ℕ → List ℕ → List ℕ
closed kind value form r = emit (behind_token kind form) 0 (emit (last_token kind) (carried kind value (last_token kind)) r)

-- the form of an assignment, and of any node, at a place
unfoldable pub assignment_form : ℕ → Forest → ℕ → ℕ
assignment_form v f place = when fun_gives place v then (when eqb (function_form f) 0 then place else Fun) else place

unfoldable pub form_of : ℕ → ℕ → Forest → ℕ → ℕ
form_of kind v f place =
    when eqb kind NodeKind.Assignment then assignment_form v f place else
    when eqb kind NodeKind.IfExpr then kind_in (last_tree f) else
    when eqb kind NodeKind.ExprBlock then kind_in (last_tree f) else
    when eqb kind NodeKind.SignatureDef then signature_mode f else
    when eqb kind NodeKind.Pack then kind_in (last_tree f) else
    place

-- the words of a tree at a place, before the words r; the children of a node with the form m, n in all, from the number j on
unfoldable mutual
  pub text : Tree → ℕ → List ℕ → List ℕ
  text (node k v f) = λ place r. opened k v (form_of k v f place) (texts f k v (form_of k v f place) (count f) 1 (closed k v (form_of k v f place) r))

  pub texts : Forest → ℕ → ℕ → ℕ → ℕ → ℕ → List ℕ → List ℕ
  texts none = λ k v m n j r. r
  texts (more t f) = λ k v m n j r. text t (place_of k v m j) (emit (after_token k v m n j) 0 (texts f k v m n (suc j) r))

-- the depth d is enough
unfoldable mutual
  pub within : Tree → ℕ → ℕ → Bool
  within (node k v f) = λ place d. leb (base k) d && withins f k v (form_of k v f place) d 1

  pub withins : Forest → ℕ → ℕ → ℕ → ℕ → ℕ → Bool
  withins none = λ k v m d j. true
  withins (more t f) = λ k v m d j. within t (place_of k v m j) (d - deeper k m j) && withins f k v m d (suc j)
