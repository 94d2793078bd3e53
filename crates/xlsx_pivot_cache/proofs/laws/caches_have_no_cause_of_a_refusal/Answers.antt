use Rattle.xlsx_pivot_cache.proofs.SoundCache.{no_cache_cause}
use Rattle.xlsx_pivot_cache.proofs.laws.caches_have_no_cause_of_a_refusal.Goals as goal

pub returns : goal.returns
returns c = λ parts definitions records rows error says cause.
    no_cache_cause parts definitions records error rows says cause
