pub mod ElementsFound
pub mod FirstStarts
pub mod ManyRead
pub mod ManySaid
pub mod SaidFrom
pub mod SaidRead
pub mod SoundParts
pub mod WholeRead
