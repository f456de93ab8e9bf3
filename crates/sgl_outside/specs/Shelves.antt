-- Files in memory: what is held under each name, what is left of the one that is begun, and which calls are to fail.
use Rattle.std.specs.Prelude.{◌==◌, ◌&&◌, ℕ, Bool, cond, List, [], drop, slice_get, Option, None, Some, option_map, option_and_then}
use Rattle.std.specs.List.{position, list_any}
use Rattle.std.specs.Str.{bytes_eq}
use Rattle.sgl_outside.specs.Folders.{Files}

-- a name and its bytes
abbrev pub HeldFile : Type 0
HeldFile = List ℕ × List ℕ

-- the place of the first file of that name
abbrev pub place_of : List HeldFile → List ℕ → Option ℕ
place_of files name = position (λ f. bytes_eq f.0 name) files

-- the bytes of the first file of each name
abbrev pub held_in : List HeldFile → Files
held_in files name = option_and_then (λ i. option_map (λ f. f.1) (slice_get files i)) (place_of files name)

-- the bytes from a place on of a file that has this name, and none of a file of another name
abbrev pub left_of : List ℕ → ℕ → Option HeldFile → List ℕ
left_of name at None = []
left_of name at (Some f) = cond (bytes_eq f.0 name) (drop at f.1) []

-- the bytes left under each name, where one file is begun and some of its bytes were read
abbrev pub left_in : List HeldFile → Option ℕ → ℕ → List ℕ → Option (List ℕ)
left_in files None at name = Some []
left_in files (Some i) at name = Some (left_of name at (slice_get files i))

-- the call of that number on that name is listed
abbrev pub is_planned : List (List ℕ × ℕ) → List ℕ → ℕ → Bool
is_planned plan name call = list_any (λ p. bytes_eq p.0 name && (p.1 == call)) plan

-- this number is listed
abbrev pub is_listed : List ℕ → ℕ → Bool
is_listed plan number = list_any (λ n. n == number) plan
