use Rattle.std.proofs.Common.{◌≡◌, ◌-◌, ◌≤◌, drop, length}
use Rattle.markup.specs.Front.{doctype_place}
use Rattle.markup.proofs.Places.{shifted}
use Rattle.markup.proofs.doctype.doctype_place.Given as goal

abbrev pub invariant-bytes : goal.invariant-bytes
invariant-bytes l = record {
  within : l.at ≤ length l.bytes;
  few : l.inner ≤ l.at;
  found : doctype_place l.bytes 0 0 ≡ shifted l.at (doctype_place (drop l.at l.bytes) 0 l.inner);
}

abbrev pub decreases-bytes : goal.decreases-bytes
decreases-bytes l = length l.bytes - l.at
