use Rattle.flk_cfg.proofs.RoundTrip.{read_back}
use Rattle.flk_cfg.proofs.canonical_laws.written_text_is_read_back.Goals as goal

pub returns : goal.returns
returns c = read_back
