-- The pieces of a part's path.
use Rattle.std.specs.Prelude.{ℕ, ◌-◌, List, [], ◌∷◌, ◌++◌, length, take, codes, Bool, ◌==◌}
use Rattle.std.specs.Prelude.{if◌then◌else◌, Option, Some, None, unwrap_or}
use Rattle.std.specs.List.{after_last}
use Rattle.std.specs.Str.{bytes_eq}

-- a byte is `/`, which parts the pieces of a path
abbrev pub is_slash : ℕ → Bool
is_slash byte = byte == 47

-- what follows a slash at the front
abbrev pub behind_slash : List ℕ → Option (List ℕ)
behind_slash [] = None
behind_slash (byte ∷ path) = if is_slash byte then Some path else None

-- the path without a slash at its front
abbrev pub without_slash : List ℕ → List ℕ
without_slash path = unwrap_or (behind_slash path) path

-- what follows the last slash of a path, or all of it
abbrev pub last_piece : List ℕ → List ℕ
last_piece path = after_last is_slash path

-- a path up to its last `/`, with it
abbrev pub front_pieces : List ℕ → List ℕ
front_pieces path = take (length path - length (last_piece path)) path

-- the folder of the part at this path, with the slash at its end and none at its front
abbrev pub folder_of : List ℕ → List ℕ
folder_of path = without_slash (front_pieces path)

-- the folder of any other part, with the slash at its end and what stands at its front; a slash
-- alone is none
abbrev pub part_folder : List ℕ → List ℕ
part_folder path =
    if bytes_eq (front_pieces path) (codes "/") then [] else front_pieces path

-- the path of the relationships of the part at a path
abbrev pub relationships_beside : List ℕ → List ℕ
relationships_beside path =
    ((part_folder path ++ codes "_rels/") ++ last_piece path) ++ codes ".rels"
