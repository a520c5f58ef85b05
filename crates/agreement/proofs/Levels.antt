-- Document 02, P1: what advisers rely on of each tree that is returned, by either entry, from any reader, also of one that comes before errors that wait: how its operators stand by their
-- levels, of the tree and of the records that the store holds (`levels`). Who goes over any tree's records, as `in_order` does, learns it of that tree (`scan_says`). Assumes nothing.
use Rattle.std.specs.Prelude.{◌≡◌, refl, true, List, [], ◌++◌, ℕ, ◌-◌, ◌*◌, ◌/◌, length, take, replicate, Some}
use Rattle.std.proofs.Common.{arith, take_at}
use Rattle.tree.specs.Tree.{Tree, records}
use Rattle.tree.specs.Decode.{decode}
use Rattle.tree.specs.Records.{records_length, decode_records, decode_text}
use Rattle.grammar.specs.Levels.{in_order}
use Rattle.grammar.specs.Reading.Next.{Called}
use Rattle.grammar.proofs.Laws.Levels.Leveled.{Leveled}
use Rattle.grammar.proofs.Laws.Levels.Records.{leveled_in_order, in_order_leveled}
use Rattle.grammar.proofs.Promise.{outcome}
use Rattle.grammar.specs.declared.Reader.{Reader}
use Rattle.agreement.specs.Calls.{Entry, Gives}
use Rattle.agreement.specs.Ordered.{Ordered}
use Rattle.agreement.proofs.Laws.Calls.{given_is}
use Rattle.agreement.specs.Trees.{OfTree}
use Rattle.agreement.specs.Levels.{LeveledWords}
use Rattle.agreement.proofs.Laws.Ordered.{leveled_ordered}
use Rattle.agreement.proofs.Laws.Trees.{outcome_of_tree}

tree_leveled : {t : Tree} → Leveled t → LeveledWords (records t)
tree_leveled {t} h = record { tree = t; text = refl; only = decode_records h.small; ordered = leveled_ordered h; scanned = leveled_in_order h }

-- a tree's records stand first in the store
stored : {t : Tree} (m : ℕ) → Leveled t → LeveledWords (take (2 * (length (records t) / 2)) (records t ++ replicate (m - length (records t)) 0))
stored {t} m h = rw (take_at (records t) (replicate (m - length (records t)) 0) (2 * (length (records t) / 2)) (omega (arith, records_length t))) (tree_leveled h)

-- every call, of either entry, of any reader on any words with any store: where a tree is answered, its words in the store are such
pub levels : (entry : Entry) (R : Reader) (T S : List ℕ) (g : Called) → Gives entry R T S g → OfTree (λ nodes store. LeveledWords (take (2 * nodes) store)) g.step.answer g.store
levels entry R T S g k = rw (given_is entry R T S g k) (outcome_of_tree _ (length S) (λ t h. stored (length S) h) (outcome R T (length S)))

-- of any words that are a tree's records: where the scan passes, the operators stand by their levels
pub scan_says : (words : List ℕ) {t : Tree} → decode words ≡ Some t → in_order [] words ≡ true → Ordered t
scan_says words d e =
    let (text, small) = decode_text d in
    leveled_ordered (in_order_leveled small (rw text e))
