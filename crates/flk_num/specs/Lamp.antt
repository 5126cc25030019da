-- What goes with each reference lamp: the half-periods of one second, and the nominal frequency in hertz.
use Rattle.std.specs.Prelude.{ℕ}
use Rattle.flk_num.specs.declared.lamp.Lamp.{Lamp}
use Rattle.flk_num.specs.declared.lamp.Lamp.TheVariants.{L230, L120}

-- two half-periods in each of 50 or 60 periods
abbrev pub window_of : Lamp → ℕ
window_of L230 = 100
window_of L120 = 120

-- hertz
abbrev pub hertz_of : Lamp → ℕ
hertz_of L230 = 50
hertz_of L120 = 60
