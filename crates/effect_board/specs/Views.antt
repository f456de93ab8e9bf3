-- What a seat knows, and what each step leaves of it.
use Rattle.std.specs.Prelude.{ℕ, ◌+◌, ◌<◌, ◌==◌, ◌&&◌, nat_lt, if◌then◌else◌, Bool, List, [], ◌∷◌, ◌++◌, length, All}
use Rattle.sgl_values.specs.Amounts.{Amount}
use Rattle.sgl_values.specs.declared.fault.Tag.{Tag}
use Rattle.effect_combine.specs.Combined.{tag_at}
use Rattle.effect_combine.specs.Words.{word_of}
use Rattle.effect_combine.specs.declared.cell.Cell.{Cell}
use Rattle.tick_core.specs.Core.{word_number}
use Rattle.tick_core.specs.declared.event.Give.{Give}
use Rattle.effect_board.specs.declared.view.View.{View}

-- the seat was not joined into another
abbrev pub is_live : View → Bool
is_live view = nat_lt 0 view.seats

-- a claim of the seat, or of one that was joined into it, found all tasks given out
abbrev pub is_done : View → Bool
is_done view = nat_lt 0 view.misses

-- the first seat, until it has made 63 others
abbrev pub may_split : View → Bool
may_split view = (view.number == 0) && nat_lt view.made 64

-- the first seat, where each other was joined into it
abbrev pub stands_for_all : View → Bool
stands_for_all view = (view.number == 0) && (view.seats == view.made)

-- so many rows have words that are shared, and so many have words of the one seat
abbrev pub table_rows : Bool → ℕ → ℕ
table_rows alone rows = if alone then 0 else rows

abbrev pub own_rows : Bool → ℕ → ℕ
own_rows alone rows = if alone then rows else 0

-- the gives that numbers tell, the last one first: two numbers tell one
abbrev pub gives_in : List ℕ → List Give
gives_in [] = []
gives_in (word ∷ []) = []
gives_in (word ∷ amount ∷ numbers) = gives_in numbers ++ record { word = word; amount = amount } ∷ []

-- that of the first seat at the start
abbrev pub first_view : ℕ → List Tag → View
first_view tasks tags = record { tasks = tasks; tags = tags; number = 0; claimed = []; gives = []; misses = 0; seats = 1; made = 1 }

-- that of the first seat, which made so many seats, itself included, and did nothing else
abbrev pub first_with : ℕ → List Tag → ℕ → View
first_with tasks tags made = record (first_view tasks tags) { made = made }

-- that which stays of a seat that was joined into another
abbrev pub spent : View
spent = record { tasks = 0; tags = []; number = 0; claimed = []; gives = []; misses = 0; seats = 0; made = 0 }

-- one more task, one more miss, and which of them a claim brings that found this number in the word of the claims
abbrev pub taking : View → ℕ → View
taking view task = record view { claimed = view.claimed ++ task ∷ [] }

abbrev pub missing : View → View
missing view = record view { misses = view.misses + 1 }

abbrev pub claiming : View → ℕ → View
claiming view found = if nat_lt found view.tasks then taking view found else missing view

-- one more give, and many
abbrev pub giving : View → Give → View
giving view give = record view { gives = view.gives ++ give ∷ [] }

abbrev pub giving_all : View → List Give → View
giving_all view gives = record view { gives = view.gives ++ gives }

-- one more seat was made, and what that seat knows
abbrev pub splitting : View → View
splitting view = record view { made = view.made + 1 }

abbrev pub newcomer : View → View
newcomer view = record { tasks = view.tasks; tags = view.tags; number = view.made; claimed = []; gives = []; misses = 0; seats = 1; made = 0 }

-- all that both did
abbrev pub joining : View → View → View
joining into from = record into {
  claimed = into.claimed ++ from.claimed;
  gives = into.gives ++ from.gives;
  misses = into.misses + from.misses;
  seats = into.seats + from.seats;
}

-- the cells of a batch that the board has words for, and what is given for one
abbrev pub IsOnBoard : ℕ → List Tag → List Cell → Type 0
IsOnBoard rows tags cells = All (λ cell. (cell.row < rows) × (cell.attr < length tags)) cells

-- the cell of one amount
abbrev pub cell_of : List Tag → ℕ → ℕ → Amount → Cell
cell_of tags row attr amount = record { row = row; attr = attr; word = word_of (tag_at tags attr) amount }

abbrev pub give_of_cell : List Tag → Cell → Give
give_of_cell tags cell = record { word = word_number tags cell.row cell.attr; amount = cell.word }
