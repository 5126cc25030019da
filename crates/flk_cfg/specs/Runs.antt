-- Runs of a row's columns, as the reader judges them. Contracts of private functions cite this file: `Rows` has the
-- whole rows.
use Rattle.std.specs.Prelude.{ℕ, Bool, List, [], ◌∷◌}
use Rattle.flk_text.specs.Decimal.{IsDecimal}
use Rattle.flk_field.specs.Values.{IsText, IsWholeFrom, IsDecimalOrZero, IsSide, IsBit}
use Rattle.flk_field.specs.Sets.{Set, Text, Decimal, DecimalOrZero, Side, at}
use Rattle.flk_cfg.specs.declared.analog.Numbers.{Numbers}

abbrev pub names_run : List Set
names_run = Text ∷ Text ∷ Text ∷ []

abbrev pub numbers_run : List Set
numbers_run = Decimal ∷ Decimal ∷ DecimalOrZero ∷ Decimal ∷ Decimal ∷ Decimal ∷ Decimal ∷ Side ∷ []

pub record AreNames (fields : List (List ℕ)) : Type 0 where
  pub id : IsText (at fields 2)
  pub ph : IsText (at fields 3)
  pub ccbm : IsText (at fields 4)

pub record AreNumbers (fields : List (List ℕ)) (n : Numbers) : Type 0 where
  pub a_is : IsDecimal (at fields 6) n.a.n
  pub b_is : IsDecimal (at fields 7) n.b.n
  pub skew_is : IsDecimalOrZero (at fields 8) n.skew.n
  pub min_is : IsDecimal (at fields 9) n.min.n
  pub max_is : IsDecimal (at fields 10) n.max.n
  pub primary_is : IsDecimal (at fields 11) n.primary.n
  pub secondary_is : IsDecimal (at fields 12) n.secondary.n
  pub ps_is : IsSide (at fields 13) n.ps

pub record AreAnalogParts (position : ℕ) (fields : List (List ℕ)) (n : Numbers) : Type 0 where
  pub position_is : IsWholeFrom position position (at fields 1) position
  pub names : AreNames fields
  pub uu : IsText (at fields 5)
  pub numbers : AreNumbers fields n

pub record AreDigitalParts (position : ℕ) (fields : List (List ℕ)) (normal : Bool) : Type 0 where
  pub position_is : IsWholeFrom position position (at fields 1) position
  pub names : AreNames fields
  pub normal_is : IsBit (at fields 5) normal
