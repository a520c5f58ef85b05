-- Trees in a row, as a scan of their records from the right sees them: each record that it passes is a node whose children take its place.
-- Definitions, and the laws of such a scan, whatever stands before the trees. Assumes nothing.
use Rattle.std.specs.Prelude.{◌≡◌, List, [], ◌∷◌, ◌++◌, ℕ, suc, ◌+◌, ◌*◌, ◌-◌, ◌/◌, ◌≤◌, ◌<◌, length, take, get_or}
use Rattle.std.proofs.Common.{sym, ap, ◌∙◌, append_assoc, append-nil, arith, length-append, length-take-le, take-take, take_at, get_or-take, get_or-append-add}
use Rattle.std.proofs.lemmas.List.{get_or_at}
use Rattle.tree.specs.Records.{Small, Smalls}
use Rattle.tree.specs.Tree.{Tree, Forest, node, none, more, count, records, all_records}

-- trees in a row, the last one on top
pub data Row : Type 0 where
  end : Row
  on : Row → Tree → Row

unfoldable pub rows : Row → List ℕ
rows end = []
rows (on r t) = rows r ++ records t

-- how many they are
unfoldable pub width : Row → ℕ
width end = 0
width (on r t) = suc (width r)

unfoldable pub SmallRow : Row → Type 0
SmallRow end = Unit {0}
SmallRow (on r t) = SmallRow r × Small t

-- the children of a node take its place
unfoldable pub push : Row → Forest → Row
push r none = r
push r (more t f) = push (on r t) f

-- the words T are B and then the records of n trees
pub record Trees (B T : List ℕ) (n : ℕ) : Type 0 where
  pub row : Row
  pub many : width row ≡ n
  pub small : SmallRow row
  pub text : T ≡ B ++ rows row

-- n trees end here, after something
pub record Ended (T : List ℕ) (n : ℕ) : Type 0 where
  pub base : List ℕ
  pub trees : Trees base T n

-- the words up to r are B
pub record Starts (B S : List ℕ) (r : ℕ) : Type 0 where
  pub at : r ≡ length B
  pub text : take r S ≡ B

pub rows_push : (r : Row) (f : Forest) → rows (push r f) ≡ rows r ++ all_records f
unfolding rows push records
rows_push r none = sym (append-nil (rows r))
rows_push r (more t f) = rows_push (on r t) f ∙ append_assoc (rows r) (records t) (all_records f)

pub width_push : (r : Row) (f : Forest) → width (push r f) ≡ width r + count f
unfolding width push count
width_push r none = omega arith
width_push r (more t f) = width_push (on r t) f ∙ omega arith

pub small_push : (r : Row) (f : Forest) → SmallRow r → Smalls f → SmallRow (push r f)
unfolding push SmallRow Small
small_push r none a b = a
small_push r (more t f) a b = small_push (on r t) f (a, b.0) b.1

-- the top tree's record stands last, and before it the row in which its children take its place
pub rows_on : (r : Row) (k v : ℕ) (f : Forest) → rows (on r (node k v f)) ≡ rows (push r f) ++ (k + 256 * count f) ∷ v ∷ []
unfolding rows records
rows_on r k v f = rw (rows_push, append_assoc)

-- each tree has a record
pub rows_long : (r : Row) → 2 * width r ≤ length (rows r)
unfolding rows width records
rows_long end = omega arith
rows_long (on r t) = rw length-append (omega (arith, rows_long r, long t))
  where
    long : (t : Tree) → 2 ≤ length (records t)
    long (node k v f) = rw length-append (omega arith)

-- the last two words up to i
pub record Last (S X : List ℕ) (a b i : ℕ) : Type 0 where
  pub at : i ≡ length X + 2
  pub front : take (i - 2) S ≡ X
  pub word : get_or S (i - 2) 0 ≡ a
  pub value : get_or S (i - 1) 0 ≡ b

pub last_two : (S X : List ℕ) (a b i : ℕ) → i ≤ length S → take i S ≡ X ++ a ∷ b ∷ [] → Last S X a b i
last_two S X a b i h e =
    let n : i ≡ length X + 2 = sym (length-take-le i S h) ∙ ap length e ∙ length-append X (a ∷ b ∷ []) in
    let x : length X ≡ i - 2 = omega arith in
    let le : i - 2 ≤ i = omega arith in
    let lt : i - 2 < i = omega arith in
    let lt₁ : i - 1 < i = omega arith in
    let y : i - 1 ≡ length X + 1 = omega arith in
    record {
      at = n;
      front = sym (take-take (i - 2) i S le) ∙ ap (take (i - 2)) e ∙ take_at X (a ∷ b ∷ []) (i - 2) x;
      word = sym (get_or-take i S (i - 2) 0 lt) ∙ ap (λ (l : List ℕ). get_or l (i - 2) 0) e ∙ get_or_at X a (b ∷ []) 0 (i - 2) x;
      value = sym (get_or-take i S (i - 1) 0 lt₁) ∙ ap (λ (l : List ℕ). get_or l (i - 1) 0) e ∙ rw y (get_or-append-add X (a ∷ b ∷ []) 1 0);
    }

-- the words of the top tree's record, and the row before it
pub record Top (B S : List ℕ) (i : ℕ) (r : Row) (k v : ℕ) (f : Forest) : Type 0 where
  pub room : length B + 2 ≤ i
  pub word : get_or S (i - 2) 0 ≡ k + 256 * count f
  pub value : get_or S (i - 1) 0 ≡ v
  pub text : take (i - 2) S ≡ B ++ rows (push r f)

pub top : (B S : List ℕ) (i : ℕ) (r : Row) (k v : ℕ) (f : Forest) → i ≤ length S → take i S ≡ B ++ rows (on r (node k v f)) → Top B S i r k v f
top B S i r k v f h e =
    let l = last_two S (B ++ rows (push r f)) (k + 256 * count f) v i h (e ∙ rw (rows_on, append_assoc)) in
    record { room = omega (arith, length-append B (rows (push r f))); word = l.word; value = l.value; text = l.front }

-- one step of a scan that looks for the start of n trees
pub record ScanStep (B S : List ℕ) (i n : ℕ) : Type 0 where
  pub room : length B + 2 ≤ i
  pub rest : Trees B (take (i - 2) S) (n - 1 + get_or S (i - 2) 0 / 256)

scan_row : (B S : List ℕ) (i n : ℕ) (row : Row) → i ≤ length S → width row ≡ n → SmallRow row → take i S ≡ B ++ rows row → 0 < n → ScanStep B S i n
unfolding width SmallRow Small
scan_row B S i n end h m s e p = absurd (omega arith)
scan_row B S i n (on r (node k v f)) h m s e p =
    let t = top B S i r k v f h e in
    let q : k < 256 = s.1.0 in
    let w = t.word in
    record {
      room = t.room;
      rest = record { row = push r f; many = width_push r f ∙ omega arith; small = small_push r f s.0 s.1.1; text = t.text };
    }

pub scan_step : (B S : List ℕ) (i n : ℕ) → i ≤ length S → Trees B (take i S) n → 0 < n → ScanStep B S i n
scan_step B S i n h t p = scan_row B S i n t.row h t.many t.small t.text p

-- n trees have n records or more
pub enough : (B S : List ℕ) (i n : ℕ) → i ≤ length S → Trees B (take i S) n → length B + 2 * n ≤ i
enough B S i n h t =
    let a : i ≡ length B + length (rows t.row) = sym (length-take-le i S h) ∙ ap length t.text ∙ length-append B (rows t.row) in
    let b = rows_long t.row in
    let m = t.many in
    omega arith

-- and no trees have none
ended_row : (B S : List ℕ) (i : ℕ) (row : Row) → i ≤ length S → width row ≡ 0 → take i S ≡ B ++ rows row → Starts B S i
unfolding width rows
ended_row B S i end h m e =
    let x : take i S ≡ B = e ∙ append-nil B in
    record { at = sym (length-take-le i S h) ∙ ap length x; text = x }
ended_row B S i (on r t) h m e = absurd (omega arith)

pub ended : (B S : List ℕ) (i n : ℕ) → i ≤ length S → Trees B (take i S) n → n ≡ 0 → Starts B S i
ended B S i n h t z = ended_row B S i t.row h (t.many ∙ z) t.text
