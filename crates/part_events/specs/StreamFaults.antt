-- The texts of the refusals of a reader.
use Rattle.std.specs.Prelude.{ℕ, List, ◌++◌, codes}
use Rattle.std.specs.Fmt.{decimal}
use Rattle.part_events.specs.declared.fault.StreamError.{StreamError}
use Rattle.part_events.specs.declared.fault.StreamError.TheVariants.{Io, Xml, OutOfMemory}
use Rattle.part_events.specs.declared.fault.XmlFault.{XmlFault}
use Rattle.part_events.specs.declared.fault.XmlFault.TheVariants.{Break, Unclosed, Entity}
use Rattle.part_events.specs.declared.fault.BreakCause.{BreakCause}
use Rattle.part_events.specs.declared.fault.BreakCause.TheVariants.{EndMismatch, Flawed}
use Rattle.part_events.specs.declared.flaw.Flaw.{Flaw}
use Rattle.part_events.specs.declared.package.PackageError.{PackageError}
use Rattle.part_events.specs.declared.package.PackageError.TheVariants as package_error
use Rattle.part_events.specs.declared.flaw.Flaw.TheVariants.{Malformed, NotText, Encrypted}
use Rattle.part_events.specs.declared.flaw.Flaw.TheVariants.{UnknownMethod, TooLarge, Damaged}
use Rattle.part_events.specs.declared.flaw.Flaw.TheVariants.{WrongSize, WrongChecksum}

-- why nothing is told of a part, in words
abbrev pub flaw_description : Flaw → List ℕ
flaw_description Malformed = codes "malformed markup"
flaw_description NotText = codes "not a text in UTF-8"
flaw_description Encrypted = codes "encrypted"
flaw_description UnknownMethod = codes "unknown compression method"
flaw_description TooLarge = codes "too large"
flaw_description Damaged = codes "damaged"
flaw_description WrongSize = codes "wrong size"
flaw_description WrongChecksum = codes "wrong checksum"

-- what breaks what is open, in words
abbrev pub break_description : BreakCause → List ℕ
break_description EndMismatch = codes "end tag mismatch"
break_description (Flawed why) = flaw_description why

-- what is wrong with the markup, in words
abbrev pub markup_description : XmlFault → List ℕ
markup_description (Break at why) = break_description why
markup_description (Unclosed at) = codes "unclosed element"
markup_description (Entity at) = codes "unknown entity"

-- the number of the event at which it is wrong
abbrev pub markup_place : XmlFault → ℕ
markup_place (Break at why) = at
markup_place (Unclosed at) = at
markup_place (Entity at) = at

-- the text of a fault of markup: what is wrong, and where
abbrev pub markup_text : XmlFault → List ℕ
markup_text fault = markup_description fault ++ (codes " at " ++ decimal (markup_place fault))

-- the refusal of a reader whose package refused a call
abbrev pub of_package : PackageError → StreamError
of_package package_error.Failed = Io
of_package package_error.OutOfMemory = OutOfMemory

-- the text of a refusal of a reader; a fault of markup has its own
abbrev pub stream_text : StreamError → List ℕ
stream_text Io = codes "the package could not be read"
stream_text (Xml fault) = markup_text fault
stream_text OutOfMemory = codes "out of memory"
