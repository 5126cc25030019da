use Rattle.flk_gen.proofs.RowLemmas.{is_valid}
use Rattle.flk_gen.proofs.recording.Recording.new.Goals as goal

pub new-requires-2 : goal.new-requires-2
new-requires-2 c = is_valid c.args.configuration.now c.requires.configuration
