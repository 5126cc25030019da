use Rattle.flk_stat.proofs.SeverityWidth.{severity_narrow}
use Rattle.flk_stat.proofs.laws.severity_is_narrow.Goals as goal

pub returns : goal.returns
returns c = λ vs rw lo hi least natural spread low high. severity_narrow vs rw lo hi least natural spread low high
