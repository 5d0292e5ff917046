-- Words in parts (Layout's `parts_words`), as a row's are: the laws, once for every list of parts. How many words there are, word j of part k,
-- parts written over zeros, parts alike or mapped one by one. A part that is filled, or one more, changes none of them. Assumes nothing.
use Rattle.std.specs.Prelude.{ℕ, zero, suc, ◌+◌, ◌*◌, ◌≤◌, ◌<◌, ◌≡◌, refl, List, [], ◌∷◌, ◌++◌, length, get_or, take, drop}
use Rattle.std.proofs.Common.{arith, sym, ap, ap₂, ◌∙◌, append_assoc, length-append, take_at, drop_at, drop-drop, get_or-drop}
use Rattle.std.proofs.lemmas.List.{replicate-append-replicate}
use Rattle.std.proofs.Math.ListN.{get_or-append}
use Rattle.gil.specs.Names.{gather}
use Rattle.gil.specs.Layout.{word_bytes, room, Part, in_room, parts_words}
use Rattle.gil.proofs.Theory.Gathered.{gather_append}
use Rattle.lent_words.specs.Mirror.{put_words}
use Rattle.lent_words.specs.Laws.Reads as reads
use Rattle.lent_words.specs.Laws.Reads.{Words}
use Rattle.lent_words.specs.Laws.Rooms.{zeros, length-words, length-room, room_word, words_append, words-room, put-room, Alike, alike_same, alike-append, alike-room}

-- every part of a list
pub data Parts (P : Part → Type 0) : List Part → Type 0 where
  none : Parts P []
  more : {p : Part} {ps : List Part} → P p → Parts P ps → Parts P (p ∷ ps)

-- its words fit its room; they fit 32 bits
abbrev pub Fits : Part → Type 0
Fits p = length p.words ≤ p.size

abbrev pub Small : Part → Type 0
Small p = Words p.words

pub empty-fits : (n : ℕ) → Fits (in_room n [])
empty-fits n = omega arith

-- how many words parts have, and how many stand before part k
unfoldable pub sizes : List Part → ℕ
sizes [] = 0
sizes (p ∷ ps) = p.size + sizes ps

unfoldable pub words_before : ℕ → List Part → ℕ
words_before zero ps = 0
words_before (suc k) [] = 0
words_before (suc k) (p ∷ ps) = p.size + words_before k ps

pub parts-long : {ps : List Part} → Parts Fits ps → length (parts_words ps) ≡ sizes ps
unfolding parts_words sizes
parts-long none = refl
parts-long (more {p} {ps} f fs) =
    length-append (room p.size p.words) (parts_words ps)
    ∙ ap₂ (λ (a b : ℕ). a + b) (length-room p.size p.words f) (parts-long fs)

pub parts-small : {ps : List Part} → Parts Small ps → Words (parts_words ps)
unfolding parts_words
parts-small none = reads.none
parts-small (more {p} f fs) = words_append (words-room p.size f) (parts-small fs)

-- part k, and what stands behind it
pub part-there :
    {ps : List Part} (k : ℕ) {p : Part} {later : List Part} → Parts Fits ps → drop k ps ≡ p ∷ later
    → drop (words_before k ps) (parts_words ps) ≡ room p.size p.words ++ parts_words later
unfolding parts_words words_before
part-there {ps} zero fs e = ap parts_words e
part-there (suc k) none e = absurd (let h : ◌≡◌ {A = ℕ} 0 1 = cc in omega arith)
part-there (suc k) (more {p = q} {ps = qs} f fs) e =
    let words : List ℕ = room q.size q.words ++ parts_words qs in
    sym (drop-drop (words_before k qs) q.size words)
    ∙ ap (drop (words_before k qs)) (drop_at (room q.size q.words) (parts_words qs) q.size (length-room q.size q.words f))
    ∙ part-there k fs e

-- word j of part k
pub part-word :
    {ps : List Part} (k : ℕ) {p : Part} {later : List Part} (at j : ℕ) → Parts Fits ps → Fits p → drop k ps ≡ p ∷ later
    → at ≡ words_before k ps + j → j < p.size → get_or (parts_words ps) at 0 ≡ get_or p.words j 0
part-word {ps} k {p} {later} at j fs f e i h =
    let inside : j < length (room p.size p.words) = rw (length-room p.size p.words f) h in
    ap (λ (n : ℕ). get_or (parts_words ps) n 0) i
    ∙ sym (get_or-drop (words_before k ps) (parts_words ps) j 0)
    ∙ ap (λ (l : List ℕ). get_or l j 0) (part-there k fs e)
    ∙ get_or-append (room p.size p.words) (parts_words later) 0 j inside
    ∙ room_word p.size p.words j

-- each part's words stored at its place, over zeros
unfoldable pub put_parts : List ℕ → ℕ → List Part → List ℕ
put_parts b at [] = b
put_parts b at (p ∷ ps) = put_parts (put_words b at p.words) (at + 4 * p.size) ps

zeros-apart : (n m : ℕ) (rest : List ℕ) → zeros (4 * (n + m)) ++ rest ≡ zeros (4 * n) ++ (zeros (4 * m) ++ rest)
zeros-apart n m rest =
    let e : 4 * (n + m) ≡ 4 * n + 4 * m = omega arith in
    rw (e, ← append_assoc, replicate-append-replicate)

pub parts-over-zeros :
    {ps : List Part} → Parts Fits ps → (at : ℕ) (a rest : List ℕ) → length a ≡ at
    → put_parts (a ++ (zeros (4 * sizes ps) ++ rest)) at ps ≡ a ++ (gather word_bytes (parts_words ps) ++ rest)
unfolding put_parts parts_words sizes gather
parts-over-zeros none at a rest e = refl
parts-over-zeros (more {p} {ps} f fs) at a rest e =
    let bytes : List ℕ = gather word_bytes (room p.size p.words) in
    let long : length bytes ≡ 4 * p.size = length-words (room p.size p.words) ∙ rw (length-room p.size p.words f) in
    let on : length (a ++ bytes) ≡ at + 4 * p.size = length-append a bytes ∙ rw (e, long) in
    let first : put_words (a ++ (zeros (4 * (p.size + sizes ps)) ++ rest)) at p.words ≡ (a ++ bytes) ++ (zeros (4 * sizes ps) ++ rest) =
    ap (λ (l : List ℕ). put_words (a ++ l) at p.words) (zeros-apart p.size (sizes ps) rest)
    ∙ put-room at p.size a p.words (zeros (4 * sizes ps) ++ rest) e f
    ∙ sym (append_assoc a bytes (zeros (4 * sizes ps) ++ rest)) in
    ap (λ (l : List ℕ). put_parts l (at + 4 * p.size) ps) first
    ∙ parts-over-zeros fs (at + 4 * p.size) (a ++ bytes) rest on
    ∙ append_assoc a bytes (gather word_bytes (parts_words ps) ++ rest)
    ∙ ap (λ (l : List ℕ). a ++ l)
    (sym (append_assoc bytes (gather word_bytes (parts_words ps)) rest)
    ∙ ap (λ (l : List ℕ). l ++ rest) (sym (gather_append word_bytes (room p.size p.words) (parts_words ps))))

-- parts that are alike one by one
pub data AlikeParts : List Part → List Part → Type 0 where
  none : AlikeParts [] []
  more : {n : ℕ} {u v : List ℕ} {ps qs : List Part} → Alike u v → AlikeParts ps qs → AlikeParts (in_room n u ∷ ps) (in_room n v ∷ qs)

pub parts-alike : {ps qs : List Part} → AlikeParts ps qs → Alike (parts_words ps) (parts_words qs)
unfolding parts_words
parts-alike none = alike_same refl
parts-alike (more {n} f fs) = alike-append (alike-room n f) (parts-alike fs)

pub alike-fit : {ps qs : List Part} → AlikeParts ps qs → Parts Fits qs → Parts Fits ps
alike-fit none none = none
alike-fit (more {n} {u} {v} f fs) (more g gs) = let h : length u ≤ n = omega (arith, f.long) in more h (alike-fit fs gs)

-- parts mapped one by one: each change takes its part's room of words; what is left stays as it is
pub record Change : Type 0 where
  pub size : ℕ
  pub to : List ℕ → List ℕ

abbrev pub change : ℕ → (List ℕ → List ℕ) → Change
change n f = record { size = n; to = f }

unfoldable pub changed : List Change → List ℕ → List ℕ
changed [] ws = ws
changed (c ∷ cs) ws = c.to (take c.size ws) ++ changed cs (drop c.size ws)

pub data Changes : List Change → List Part → List Part → Type 0 where
  none : {ps : List Part} → Changes [] ps ps
  more :
      {n : ℕ} {f : List ℕ → List ℕ} {u v : List ℕ} {cs : List Change} {ps qs : List Part}
      → length u ≤ n
      → f (room n u) ≡ room n v
      → Changes cs ps qs
      → Changes (change n f ∷ cs) (in_room n u ∷ ps) (in_room n v ∷ qs)

pub parts-changed : {cs : List Change} {ps qs : List Part} → Changes cs ps qs → changed cs (parts_words ps) ≡ parts_words qs
unfolding changed parts_words
parts-changed none = refl
parts-changed (more {n} {f} {u} {v} {cs} {ps} {qs} h e is) =
    let long : length (room n u) ≡ n = length-room n u h in
    ap₂ (λ (a b : List ℕ). a ++ b)
    (ap f (take_at (room n u) (parts_words ps) n long) ∙ e)
    (ap (changed cs) (drop_at (room n u) (parts_words ps) n long) ∙ parts-changed is)
