-- Where rows stand in the table: finished one after another into zeros, and the heading written last, they come to Layout's bytes of the
-- table. Assumes nothing.
use Rattle.std.specs.Prelude.{ℕ, ◌+◌, ◌*◌, ◌-◌, ◌<◌, ◌≤◌, ◌≡◌, refl, List, [], ◌∷◌, ◌++◌, take, drop}
use native.Mathlib.Omega.{arith}
use Rattle.std.proofs.Common.{sym, ap, ◌∙◌, append_assoc, append-nil, length-append, lt-ltb, le-leb}
use Rattle.std.proofs.Math.ListN.{length, replicate-append-replicate}
use Rattle.std.proofs.lemmas.List.{length-replicate}
use Rattle.std.proofs.Math.Seq.{take_at, drop_at}
use Rattle.gil.specs.Names.{gather}
use Rattle.gil.specs.Values.{Value}
use Rattle.gil.specs.Rows.{Row}
use Rattle.gil.specs.Pool.{Ref, place_in, Pool}
use Rattle.gil.specs.Numbers.{most_rows, row_length, heading_length, table_length, head_room}
use Rattle.gil.specs.Layout.{word_bytes, room, row_bytes, ref_tag, table_head, table_bytes}
use Rattle.machine_cells.specs.declared.Cell.{Cell}
use Rattle.table_rows.specs.declared.Head.{Head}
use Rattle.table_rows.specs.Mirror.{with_row, with_row_at}
use Rattle.gil.proofs.Theory.Gathered.{gather-last}
use Rattle.lent_words.specs.Mirror.{put_words}
use Rattle.lent_words.specs.Laws.Rooms.{zeros, length-words, length-room, put-room}
use Rattle.lent_words.specs.Laws.Row.{row-long}
use Rattle.table_rows.specs.Laws.Held.{Keeps, RowAs}
use Rattle.table_rows.specs.Laws.Row.{row-left}

abbrev rows_bytes : List (Row Ref) → List ℕ
rows_bytes rows = gather (row_bytes ref_tag place_in) rows

-- the table while exploring: rows, and no heading yet
pub record TableAs (rows : List (Row Ref)) (t : List ℕ) : Type 0 where
  pub bytes : t ≡ room table_length (zeros heading_length ++ gather (row_bytes ref_tag place_in) rows)
  pub sized : length (gather (row_bytes ref_tag place_in) rows) ≡ row_length * length rows

-- a room with nothing in it, and one that is filled further
room-zeros : (m n k : ℕ) → n ≡ m → k ≤ m → zeros n ≡ room m (zeros k ++ [])
unfolding room
room-zeros m n k e h =
    let f : k + (m - k) ≡ m = omega arith in
    rw (e, append-nil, length-replicate {A = ℕ} k 0, replicate-append-replicate {A = ℕ} k (m - k) 0, f)

module _ (m at n : ℕ) (a b : List ℕ) (la : length a ≡ at) (lb : length b ≡ n) (fits : at + n ≤ m) where
  behind : drop at (room m a) ≡ zeros n ++ zeros (m - (at + n))
  unfolding room
  behind =
      let e : m - length a ≡ n + (m - (at + n)) = omega arith in
      drop_at a (zeros (m - length a)) at la ∙ rw (e, replicate-append-replicate {A = ℕ} n (m - (at + n)) 0)

  before : take at (room m a) ≡ a
  unfolding room
  before = take_at a (zeros (m - length a)) at la

  room-free : take n (drop at (room m a)) ≡ zeros n
  room-free = rw behind (take_at (zeros n) (zeros (m - (at + n))) n (length-replicate n 0))

  filled : a ++ (b ++ zeros (m - (at + n))) ≡ room m (a ++ b)
  unfolding room
  filled =
      let e : length (a ++ b) ≡ at + n = simp (length-append, la, lb) in
      rw (e, append_assoc)

  room-more : take at (room m a) ++ (b ++ drop n (drop at (room m a))) ≡ room m (a ++ b)
  room-more = rw (behind, before, drop_at (zeros n) (zeros (m - (at + n))) n (length-replicate n 0)) filled

-- no row yet: all of it zero
pub table_none : (n : ℕ) → n ≡ table_length → TableAs [] (zeros n)
unfolding gather
table_none n e = record { bytes = room-zeros table_length n heading_length e (omega arith); sized = refl }

-- one row more
at_row :
    (t : List ℕ) (k : ℕ) (h : Head) (conditions store : List ℕ) (frame : ℕ) (cells : List Cell) → k < most_rows → heading_length + row_length * k ≤ length t
    → with_row_at t k h conditions store frame cells
    ≡ take (heading_length + row_length * k) t ++ with_row (drop (heading_length + row_length * k) t) h conditions store frame cells
unfolding with_row_at
at_row t k h conditions store frame cells few long = simp (lt-ltb k most_rows few, le-leb (heading_length + row_length * k) (length t) long)

front_long : (z : ℕ) (b : List ℕ) (n : ℕ) → length b ≡ n → length (zeros z ++ b) ≡ z + n
front_long z b n e = length-append (zeros z) b ∙ rw (length-replicate {A = ℕ} z 0, e)

pub table_more :
    (As : Value Ref → ℕ → Type 0) → Keeps ref_tag place_in As
    → {rows : List (Row Ref)} {t : List ℕ} {r : Row Ref} {h : Head} {conditions store : List ℕ} {frame : ℕ} {cells : List Cell} (k : ℕ)
    → TableAs rows t → k ≡ length rows → k < most_rows → RowAs As place_in r h conditions store frame cells
    → TableAs (rows ++ (r ∷ [])) (with_row_at t k h conditions store frame cells)
table_more As kept {rows} {t} {r} {h} {conditions} {store} {frame} {cells} k w e few p =
    let b = row_bytes ref_tag place_in r in
    let front = zeros heading_length ++ rows_bytes rows in
    let lr : length b ≡ row_length = row-long ref_tag place_in p.within in
    let la : length front ≡ heading_length + row_length * k = front_long heading_length (rows_bytes rows) (row_length * k) (w.sized ∙ rw e) in
    let fits : heading_length + row_length * k + row_length ≤ table_length = omega arith in
    let lt : length t ≡ table_length = ap length w.bytes ∙ length-room table_length front (omega arith) in
    let free : take row_length (drop (heading_length + row_length * k) t) ≡ zeros row_length =
    ap (λ (l : List ℕ). take row_length (drop (heading_length + row_length * k) l)) w.bytes ∙ room-free table_length (heading_length + row_length * k) row_length front b la lr fits in
    let written : with_row_at t k h conditions store frame cells ≡ take (heading_length + row_length * k) t ++ (b ++ drop row_length (drop (heading_length + row_length * k) t)) =
    at_row t k h conditions store frame cells few (omega arith)
    ∙ ap (λ (l : List ℕ). take (heading_length + row_length * k) t ++ l) (row-left ref_tag place_in As kept p (drop (heading_length + row_length * k) t) free) in
    let filled : take (heading_length + row_length * k) t ++ (b ++ drop row_length (drop (heading_length + row_length * k) t)) ≡ room table_length (front ++ b) =
    ap (λ (l : List ℕ). take (heading_length + row_length * k) l ++ (b ++ drop row_length (drop (heading_length + row_length * k) l))) w.bytes
    ∙ room-more table_length (heading_length + row_length * k) row_length front b la lr fits in
    let last : rows_bytes (rows ++ (r ∷ [])) ≡ rows_bytes rows ++ b = gather-last (row_bytes ref_tag place_in) rows r in
    let same : front ++ b ≡ zeros heading_length ++ rows_bytes (rows ++ (r ∷ [])) =
    append_assoc (zeros heading_length) (rows_bytes rows) b ∙ ap (λ (l : List ℕ). zeros heading_length ++ l) (sym last) in
    let counted : length (rows ++ (r ∷ [])) ≡ length rows + 1 = length-append rows (r ∷ []) in
    let bytes : length (rows_bytes (rows ++ (r ∷ []))) ≡ length (rows_bytes rows) + length b =
    ap length last ∙ length-append (rows_bytes rows) b in
    record { bytes = written ∙ filled ∙ ap (room table_length) same; sized = omega (arith, w.sized) }

-- the heading, written last
room-is : (m : ℕ) (a x : List ℕ) → room m (a ++ x) ≡ a ++ (x ++ zeros (m - length (a ++ x)))
unfolding room
room-is m a x = append_assoc a x (zeros (m - length (a ++ x)))

head-over :
    (m n : ℕ) (ws x : List ℕ) → length ws ≤ n
    → put_words (room m (zeros (4 * n) ++ x)) 0 ws ≡ room m (gather word_bytes (room n ws) ++ x)
head-over m n ws x h =
    let a = zeros (4 * n) in
    let b = gather word_bytes (room n ws) in
    let la : length (a ++ x) ≡ 4 * n + length x = front_long (4 * n) x (length x) refl in
    let lb : length (b ++ x) ≡ 4 * n + length x =
    length-append b x ∙ ap (λ (k : ℕ). k + length x) (length-words (room n ws) ∙ ap (λ (k : ℕ). 4 * k) (length-room n ws h)) in
    ap (λ (l : List ℕ). put_words l 0 ws) (room-is m a x)
    ∙ put-room 0 n [] ws (x ++ zeros (m - length (a ++ x))) refl h
    ∙ ap (λ (k : ℕ). b ++ (x ++ zeros (m - k))) (la ∙ sym lb)
    ∙ sym (room-is m b x)

pub table-headed :
    {rows : List (Row Ref)} {t : List ℕ} (w : Pool) (k n : ℕ) → TableAs rows t → k ≡ length rows → n ≡ length w
    → put_words t 0 (k ∷ n ∷ []) ≡ table_bytes w rows
unfolding table_bytes table_head
table-headed {rows} {t} w k n p e f =
    let counts : k ∷ n ∷ [] ≡ length rows ∷ length w ∷ [] = cc in
    ap (λ (l : List ℕ). put_words l 0 (k ∷ n ∷ [])) p.bytes
    ∙ head-over table_length head_room (k ∷ n ∷ []) (rows_bytes rows) (omega arith)
    ∙ ap (λ (l : List ℕ). room table_length (gather word_bytes (room head_room l) ++ rows_bytes rows)) counts
