-- The text of a package, by its pieces.
use Rattle.std.proofs.Common.{◌≡◌, ℕ, List, ◌++◌, refl, ap, ◌∙◌, append_assoc, false, codes}
use Rattle.std.specs.Fmt.{digits}
use Rattle.json.specs.Print.{escape_byte}
use Rattle.serde_json.specs.Data.{Items, array, object, string, member, no_members}
use Rattle.serde_json.specs.Written.{compact_text, items_text}
use Rattle.part_events.specs.Words.{Part}
use Rattle.package_text.specs.WrittenPackage.{parts_data, package_data, written_package}

-- a part with these events
part_text : (name : List ℕ) (items : Items)
    → codes "{\"events\":[" ++ (items_text false items ++ (codes ",\"name\":"
    ++ (compact_text (string name) ++ codes "}")))
    ≡ compact_text (object (member (codes "events") (array items)
    (member (codes "name") (string name) no_members)))
unfolding escape_byte
part_text name items = refl

whole_text : (parts : List Part)
    → codes "{\"parts\":[" ++ (items_text false (parts_data parts) ++ codes ",\"version\":2}")
    ≡ written_package parts
unfolding escape_byte digits package_data
whole_text parts = refl

regroup : (old a b c d e : List ℕ)
    → ((((old ++ a) ++ b) ++ c) ++ d) ++ e ≡ old ++ (a ++ (b ++ (c ++ (d ++ e))))
regroup old a b c d e = simp append_assoc

-- the pieces of a part, put behind a text one after the other
pub part_joined : (old opened listed between named new name : List ℕ) (items : Items)
    → opened ≡ old ++ codes "{\"events\":[" → listed ≡ opened ++ items_text false items
    → between ≡ listed ++ codes ",\"name\":" → named ≡ between ++ compact_text (string name)
    → new ≡ named ++ codes "}"
    → new ≡ old ++ compact_text (object (member (codes "events") (array items)
    (member (codes "name") (string name) no_members)))
part_joined old opened listed between named new name items first second third fourth fifth =
    rw (fifth, fourth, third, second, first)
    (regroup old (codes "{\"events\":[") (items_text false items) (codes ",\"name\":")
    (compact_text (string name)) (codes "}")
    ∙ ap (λ (own : List ℕ). old ++ own) (part_text name items))

pub whole_joined : (opened listed new : List ℕ) (parts : List Part)
    → opened ≡ codes "{\"parts\":[" → listed ≡ opened ++ items_text false (parts_data parts)
    → new ≡ listed ++ codes ",\"version\":2}" → new ≡ written_package parts
whole_joined opened listed new parts first second third =
    rw (third, second, first)
    (append_assoc (codes "{\"parts\":[") (items_text false (parts_data parts))
    (codes ",\"version\":2}")
    ∙ whole_text parts)
