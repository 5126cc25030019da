-- What is written is read back: bytes of a value have no first fault, and bytes have at most one value.
use Rattle.std.proofs.Common.{Result, Ok, Err}
use Rattle.flk_num.specs.declared.stop.Stop.{Stop}
use Rattle.flk_num.specs.declared.stop.Stop.TheVariants as stop
use Rattle.flk_cfg.specs.File.{IsFileAnswer}
use Rattle.flk_cfg.specs.Valid.{IsValid}
use Rattle.flk_cfg.specs.Canonical.{canonical, IsReadBack}
use Rattle.flk_cfg.specs.declared.config.Config.{Config}
use Rattle.flk_cfg.specs.declared.kind.CfgFault.{CfgFault}
use Rattle.flk_cfg.proofs.CanonicalLaws.{canonical_writes}
use Rattle.flk_cfg.proofs.ConfigLaws.{one_config, config_or_fault}

pub read_back : (c : Config) (r : Result Config (Stop CfgFault)) → IsValid c → IsFileAnswer (canonical c) r → IsReadBack c r
read_back c (Ok d) v a = one_config (canonical c) d c a (canonical_writes c v)
read_back c (Err (stop.Fault f)) v a = config_or_fault (canonical c) c f.line f.field a.0 (canonical_writes c v) a.2
read_back c (Err stop.OutOfMemory) v a = tt
