pub mod SameRefusals
