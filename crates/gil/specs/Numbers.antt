-- Document 01's numbers, each with its name, once. The code has the same names in capitals (src/). Assumes nothing.
use Rattle.std.specs.Prelude.{ℕ, ◌+◌, ◌*◌, ◌≡◌, refl}

-- what a text may have: the characters of an identifier or property, the largest number and site, how deep an expression may be (4), and the
-- limits of refusals 3 and 5
abbrev pub most_characters : ℕ
most_characters = 16

abbrev pub largest_number : ℕ
largest_number = 4294967295

abbrev pub largest_site : ℕ
largest_site = 255

abbrev pub most_depth : ℕ
most_depth = 8

abbrev pub most_bytes : ℕ
most_bytes = 16384

abbrev pub most_procedures : ℕ
most_procedures = 16

abbrev pub most_commands : ℕ
most_commands = 512

abbrev pub most_variables : ℕ
most_variables = 16

abbrev pub most_properties : ℕ
most_properties = 32

-- what a call may be given (refusal 1), and what an exploration may come to (refusals 9 and 10)
abbrev pub most_steps : ℕ
most_steps = 1024

abbrev pub most_branches : ℕ
most_branches = 16

abbrev pub most_rows : ℕ
most_rows = 64

abbrev pub most_terms : ℕ
most_terms = 2048

-- what a path may use (errors 4 to 7)
abbrev pub most_frames : ℕ
most_frames = 8

abbrev pub most_inputs : ℕ
most_inputs = 16

abbrev pub most_locations : ℕ
most_locations = 16

abbrev pub most_cells : ℕ
most_cells = 32

-- "Error numbers": 1 variable not bound; 2 wrong sort; 3 no such cell; 4 a ninth frame; 5 a seventeenth input; 6 a seventeenth location; 7 a
-- thirty-third cell; and the last that there is
abbrev pub not_bound : ℕ
not_bound = 1

abbrev pub wrong_sort : ℕ
wrong_sort = 2

abbrev pub no_such_cell : ℕ
no_such_cell = 3

abbrev pub ninth_frame : ℕ
ninth_frame = 4

abbrev pub seventeenth_input : ℕ
seventeenth_input = 5

abbrev pub seventeenth_location : ℕ
seventeenth_location = 6

abbrev pub thirty_third_cell : ℕ
thirty_third_cell = 7

abbrev pub last_error : ℕ
last_error = 7

-- "Numbered refusals, in the order tested": what each is given for; no call that is planned refuses by more than the last
abbrev pub for_budgets : ℕ
for_budgets = 1

abbrev pub for_lists : ℕ
for_lists = 2

abbrev pub for_length : ℕ
for_length = 3

abbrev pub for_form : ℕ
for_form = 4

abbrev pub for_limits : ℕ
for_limits = 5

abbrev pub for_names : ℕ
for_names = 6

abbrev pub for_jump : ℕ
for_jump = 7

abbrev pub for_end : ℕ
for_end = 8

abbrev pub for_rows : ℕ
for_rows = 9

abbrev pub for_terms : ℕ
for_terms = 10

abbrev pub last_refusal : ℕ
last_refusal = 18

-- a row that is found is answered by its number and this, which no refusal reaches
abbrev pub first_row : ℕ
first_row = 256

-- docs/LAYOUT.md: outcomes, and why a row was cut
abbrev pub as_returned : ℕ
as_returned = 1

abbrev pub as_failed : ℕ
as_failed = 2

abbrev pub as_vanished : ℕ
as_vanished = 3

abbrev pub as_error : ℕ
as_error = 4

abbrev pub as_cut : ℕ
as_cut = 5

abbrev pub for_steps : ℕ
for_steps = 1

abbrev pub for_branches : ℕ
for_branches = 2

-- tags of values
abbrev pub number_tag : ℕ
number_tag = 1

abbrev pub boolean_tag : ℕ
boolean_tag = 2

abbrev pub location_tag : ℕ
location_tag = 3

abbrev pub number_term_tag : ℕ
number_term_tag = 4

abbrev pub boolean_term_tag : ℕ
boolean_term_tag = 5

-- kinds of terms
abbrev pub input_kind : ℕ
input_kind = 1

abbrev pub not_kind : ℕ
not_kind = 2

abbrev pub plus_kind : ℕ
plus_kind = 3

abbrev pub minus_kind : ℕ
minus_kind = 4

abbrev pub equal_kind : ℕ
equal_kind = 5

abbrev pub less_kind : ℕ
less_kind = 6

abbrev pub and_kind : ℕ
and_kind = 7

abbrev pub or_kind : ℕ
or_kind = 8

-- lengths in bytes: a word, a term, a row, the table's heading, the lent buffers and the input list
abbrev pub word_length : ℕ
word_length = 4

abbrev pub term_length : ℕ
term_length = 20

abbrev pub row_length : ℕ
row_length = 1024

abbrev pub heading_length : ℕ
heading_length = 64

abbrev pub table_length : ℕ
table_length = 65600

abbrev pub pool_length : ℕ
pool_length = 40960

abbrev pub answer_length : ℕ
answer_length = 1024

abbrev pub inputs_length : ℕ
inputs_length = 64

-- the parts of a row, in words: how many each has. The two that are empty are kept for what W2 and W5 add.
abbrev pub head_room : ℕ
head_room = 16

abbrev pub conditions_room : ℕ
conditions_room = 32

abbrev pub variables_room : ℕ
variables_room = 32

abbrev pub cells_room : ℕ
cells_room = 128

abbrev pub liveness_room : ℕ
liveness_room = 16

abbrev pub sites_room : ℕ
sites_room = 16

abbrev pub rest_room : ℕ
rest_room = 16

-- and all of them
abbrev pub row_room : ℕ
row_room = 256

-- at which byte of a row each begins
abbrev pub conditions_at : ℕ
conditions_at = 64

abbrev pub variables_at : ℕ
variables_at = 192

abbrev pub cells_at : ℕ
cells_at = 320

-- the words of a row's head, by their number
abbrev pub outcome_word : ℕ
outcome_word = 0

abbrev pub tag_word : ℕ
tag_word = 1

abbrev pub value_word : ℕ
value_word = 2

abbrev pub steps_word : ℕ
steps_word = 3

abbrev pub procedure_word : ℕ
procedure_word = 4

abbrev pub command_word : ℕ
command_word = 5

abbrev pub inputs_word : ℕ
inputs_word = 6

abbrev pub conditions_word : ℕ
conditions_word = 7

abbrev pub variables_word : ℕ
variables_word = 8

abbrev pub cells_word : ℕ
cells_word = 9

-- they fit each other
pub table_fits : heading_length + most_rows * row_length ≡ table_length
table_fits = refl

pub pool-fits : most_terms * term_length ≡ pool_length
pool-fits = refl

pub row_fits :
    (head_room + conditions_room + variables_room + cells_room + liveness_room + sites_room + rest_room ≡ row_room)
    × (word_length * row_room ≡ row_length)
row_fits = (refl, refl)

pub parts-fit :
    (word_length * head_room ≡ conditions_at)
    × (conditions_at + word_length * conditions_room ≡ variables_at)
    × (variables_at + word_length * variables_room ≡ cells_at)
parts-fit = (refl, refl, refl)
