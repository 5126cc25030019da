use Rattle.flk_cfg.proofs.CanonicalLaws.{canonical_writes}
use Rattle.flk_cfg.proofs.canonical_laws.canonical_text_writes_its_configuration.Goals as goal

pub returns : goal.returns
returns c = canonical_writes
