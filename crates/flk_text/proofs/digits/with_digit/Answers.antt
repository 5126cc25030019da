use Rattle.std.proofs.Common.{refl, arith}
use Rattle.flk_text.proofs.PowersOfTen.{IsLong-push, short_front, long_front, IsShort-zero, IsShort-digit, wide_long, far_long}
use Rattle.flk_text.proofs.digits.with_digit.Goals as goal

pub returns-then-digits-clause-stands : goal.returns-then-digits-clause-stands
returns-then-digits-clause-stands c = λ n h. long_front _ _ c.if-digits.true (IsLong-push n c.args.digit c.requires.digit (h.long c.if-digits.true))

pub returns-then-digit-eq0-clause-stands : goal.returns-then-digit-eq0-clause-stands
returns-then-digit-eq0-clause-stands c = λ n h. short_front _ _ refl (IsShort-zero n c.args.digit c.args.digits.significand c.args.digits.zeros c.if-digit-eq0.true (omega (arith, c.if-digits-eq0.false)) (h.short c.if-digits.false))

pub returns-then-digits-gt17-clause-stands : goal.returns-then-digits-gt17-clause-stands
returns-then-digits-gt17-clause-stands c = λ n h. long_front _ _ refl (far_long n c.args.digit c.args.digits.significand c.args.digits.zeros c.requires.digit (omega (arith, c.if-digit-eq0.false)) (omega (arith, c.if-digits-eq0-2.false)) c.if-digits-gt17.true (h.short c.if-digits.false))

pub returns-then-wide-lt1000000000000000000-clause-stands : goal.returns-then-wide-lt1000000000000000000-clause-stands
returns-then-wide-lt1000000000000000000-clause-stands c = λ n h. short_front _ _ refl (IsShort-digit n c.args.digit c.args.digits.significand c.args.digits.zeros c.joined-wide.result c.requires.digit (omega (arith, c.if-digit-eq0.false)) c.joined-wide.ensures c.if-wide-lt1000000000000000000.true (h.short c.if-digits.false))

pub returns-else-wide-lt1000000000000000000-clause-stands : goal.returns-else-wide-lt1000000000000000000-clause-stands
returns-else-wide-lt1000000000000000000-clause-stands c = λ n h. long_front _ _ refl (wide_long n c.args.digit c.args.digits.significand c.args.digits.zeros c.joined-wide.result c.requires.digit (omega (arith, c.if-digit-eq0.false)) c.joined-wide.ensures c.if-wide-lt1000000000000000000.false (h.short c.if-digits.false))
