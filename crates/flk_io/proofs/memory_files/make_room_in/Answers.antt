use Rattle.std.proofs.Common.{rules, ◌≡◌, length, drop, ◌∙◌, ap}
use Rattle.std.proofs.Math.Seq.{take-append_seam}
use Rattle.flk_io.specs.Files.{room_of}
use Rattle.flk_io.proofs.Lookups.{OnErr-map}
use Rattle.flk_io.proofs.memory_files.make_room_in.Goals as goal

pub returns-clause-kept : goal.returns-clause-kept
returns-clause-kept c =
    let files = c.make_room_at.new.files in
    let same_length : length files ≡ c.find_or_make.new.files.len = search rules in
    let before : c.deref_mut.result.now ≡ c.find_or_make.new.files.items = c.deref_mut.ensures.value in
    OnErr-map c.make_room_at.result
    (λ stays name. rw (← same_length, take-append_seam files (drop (length files) c.find_or_make.new.files.items)) (stays name ∙ ap (λ fs. room_of fs name) before ∙ c.find_or_make.ensures.room name))
    c.make_room_at.ensures.err
