use Rattle.std.proofs.Common.{refl}
use Rattle.flk_design.proofs.Computed.{nearest}
use Rattle.flk_design.proofs.rate_4800.design_4800.Goals as goal

pub returns-in-L230 : goal.returns-in-L230
returns-in-L230 c =
    rw c.in-L230.is (
      record { b0 = nearest tt tt tt; zeros = (refl, refl); a1 = nearest tt tt tt; a2 = nearest tt tt tt },
      (
        record { b0 = nearest tt tt tt; zeros = (refl, refl); a1 = nearest tt tt tt; a2 = nearest tt tt tt },
        (
          record { b0 = nearest tt tt tt; zeros = (refl, refl); a1 = nearest tt tt tt; a2 = nearest tt tt tt },
          (
            record { b0 = nearest tt tt tt; zeros = (refl, refl); a1 = nearest tt tt tt; a2 = nearest tt tt tt },
            (
              record { b0 = nearest tt tt tt; zeros = (refl, refl); a1 = nearest tt tt tt; a2 = nearest tt tt tt },
              (
                record { b0 = nearest tt tt tt; zeros = (nearest tt tt tt, refl); a1 = nearest tt tt tt; a2 = nearest tt tt tt },
                (record { b0 = nearest tt tt tt; zeros = (refl, refl); a1 = nearest tt tt tt; a2 = nearest tt tt tt }, tt),
              ),
            ),
          ),
        ),
      ),
    )

pub returns-in-L120 : goal.returns-in-L120
returns-in-L120 c =
    rw c.in-L120.is (
      record { b0 = nearest tt tt tt; zeros = (refl, refl); a1 = nearest tt tt tt; a2 = nearest tt tt tt },
      (
        record { b0 = nearest tt tt tt; zeros = (refl, refl); a1 = nearest tt tt tt; a2 = nearest tt tt tt },
        (
          record { b0 = nearest tt tt tt; zeros = (refl, refl); a1 = nearest tt tt tt; a2 = nearest tt tt tt },
          (
            record { b0 = nearest tt tt tt; zeros = (refl, refl); a1 = nearest tt tt tt; a2 = nearest tt tt tt },
            (
              record { b0 = nearest tt tt tt; zeros = (refl, refl); a1 = nearest tt tt tt; a2 = nearest tt tt tt },
              (
                record { b0 = nearest tt tt tt; zeros = (nearest tt tt tt, refl); a1 = nearest tt tt tt; a2 = nearest tt tt tt },
                (record { b0 = nearest tt tt tt; zeros = (refl, refl); a1 = nearest tt tt tt; a2 = nearest tt tt tt }, tt),
              ),
            ),
          ),
        ),
      ),
    )
