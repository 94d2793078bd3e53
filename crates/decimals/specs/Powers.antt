-- A power of ten, up to a limit that no number which can be held reaches.
use Rattle.std.specs.Prelude.{◌-◌, ◌^◌, min, ℤ, pos, negsuc}

-- the nearest power between the limits
abbrev pub near : ℤ → ℤ
near (pos n) = pos (min n (2 ^ 100))
near (negsuc n) = negsuc (min n (2 ^ 100 - 1))
