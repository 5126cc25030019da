use Rattle.std.proofs.Common.{◌∙◌}
use Rattle.flk_field.specs.Columns.{parts_of}
use Rattle.flk_cfg.proofs.analog.read_analog.Goals as goal

pub returns-clause-channel : goal.returns-clause-channel
returns-clause-channel c = λ bytes k s.
    let line = c.in_ok-columns.ensures.line bytes k s in
    let are = c.in_ok-numbers.ensures in (
      parts_of c.in_ok-columns.columns,
      line.is,
      record {
        count = line.count_is;
        position_is = are.position_is;
        id_is = record { inside = are.names.id; is = c.in_ok-from_slice.ensures ∙ c.field.ensures };
        ph_is = record { inside = are.names.ph; is = c.in_ok-from_slice-2.ensures ∙ c.field-2.ensures };
        ccbm_is = record { inside = are.names.ccbm; is = c.in_ok-from_slice-3.ensures ∙ c.field-3.ensures };
        uu_is = record { inside = are.uu; is = c.in_ok-from_slice-4.ensures ∙ c.field-4.ensures };
        a_is = are.numbers.a_is;
        b_is = are.numbers.b_is;
        skew_is = are.numbers.skew_is;
        min_is = are.numbers.min_is;
        max_is = are.numbers.max_is;
        primary_is = are.numbers.primary_is;
        secondary_is = are.numbers.secondary_is;
        ps_is = are.numbers.ps_is;
      },
    )
