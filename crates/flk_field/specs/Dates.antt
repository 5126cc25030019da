-- The texts of dates and times, and the dates and times that they write.
use Rattle.std.specs.Prelude.{◌≡◌, ℕ, ◌-◌, ◌*◌, ◌^◌, ◌≤◌, ◌⊎◌, List, [], ◌∷◌, ◌++◌, length, ℤ, pos}
use Rattle.flk_text.specs.Numeral.{AreDigits, number_from}
use Rattle.jiff.specs.Words.{IsDate}

-- digits, at least and at most so many, which write n
pub record IsNumber (least most : ℕ) (digits : List ℕ) (n : ℕ) : Type 0 where
  pub are : AreDigits digits
  pub least_is : least ≤ length digits
  pub most_is : length digits ≤ most
  pub value : n ≡ number_from 0 digits

-- `dd/mm/yyyy`: one or two digits for day and month, and four for the year
pub record IsDateText (f : List ℕ) (day month year : ℕ) : Type 0 where
  pub d : List ℕ
  pub m : List ℕ
  pub y : List ℕ
  pub text_is : f ≡ d ++ 47 ∷ (m ++ 47 ∷ y)
  pub day_is : IsNumber 1 2 d day
  pub month_is : IsNumber 1 2 m month
  pub year_is : IsNumber 4 4 y year

-- the text is of a date's form
abbrev pub IsDateForm : List ℕ → Type 0
IsDateForm f = (day : ℕ) × (month : ℕ) × (year : ℕ) × IsDateText f day month year

-- the text writes this date, which is in the proleptic Gregorian calendar, from year 1 on
pub record IsDateOf (f : List ℕ) (year : ℤ) (month day : ℕ) : Type 0 where
  pub number : ℕ
  pub text : IsDateText f day month number
  pub year_is : year ≡ pos number
  pub from : 1 ≤ number
  pub civil : IsDate year (pos month) (pos day)

-- nothing, or a point and one to nine digits: the fraction of a second, in nanoseconds
abbrev pub IsSecondFraction : List ℕ → ℕ → Type 0
IsSecondFraction part nanos =
    ((part ≡ []) × (nanos ≡ 0))
    ⊎ ((digits : List ℕ) × (n : ℕ) × (part ≡ 46 ∷ digits) × IsNumber 1 9 digits n
    × (nanos ≡ n * 10 ^ (9 - length digits)))

-- `hh:mm:ss`: one or two digits for the hour, and two each for minute and second, and then the fraction of a second
pub record IsTimeText (f : List ℕ) (hour minute second nanos : ℕ) : Type 0 where
  pub h : List ℕ
  pub m : List ℕ
  pub s : List ℕ
  pub part : List ℕ
  pub text_is : f ≡ h ++ 58 ∷ (m ++ 58 ∷ (s ++ part))
  pub hour_is : IsNumber 1 2 h hour
  pub minute_is : IsNumber 2 2 m minute
  pub second_is : IsNumber 2 2 s second
  pub nanos_is : IsSecondFraction part nanos

-- the text is of a time's form
abbrev pub IsTimeForm : List ℕ → Type 0
IsTimeForm f = (hour : ℕ) × (minute : ℕ) × (second : ℕ) × (nanos : ℕ) × IsTimeText f hour minute second nanos

-- the text writes this time, which is of a day
pub record IsTimeOf (f : List ℕ) (hour minute second nanos : ℕ) : Type 0 where
  pub text : IsTimeText f hour minute second nanos
  pub hour_most : hour ≤ 23
  pub minute_most : minute ≤ 59
  pub second_most : second ≤ 59
