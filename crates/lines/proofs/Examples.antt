-- Lines of the report, byte by byte.
use mathlib.Core.Path.{◌≡◌, refl}
use lib.IntN.{pos, negsuc}
use Rattle.params.specs.declared.answers.Refusal.TheVariants.{Form}
use Rattle.walk.specs.declared.Ending.TheVariants.{Clean, Stuck, Full}
use Rattle.walk.specs.Ascii.{ascii}
use Rattle.lines.specs.Decimal.{digits, decimal, signed_decimal}
use Rattle.lines.specs.Lines.{loss_line, left_line, end_line, refused_line}

-- 0, 10, the greatest number of 64 bits, and the least signed one
zero_is_a_digit : decimal 0 ≡ ascii "0"
unfolding digits
zero_is_a_digit = refl

ten_has_two_digits : decimal 10 ≡ ascii "10"
unfolding digits
ten_has_two_digits = refl

twenty_digits : decimal 18446744073709551615 ≡ ascii "18446744073709551615"
unfolding digits
twenty_digits = refl

least_signed : signed_decimal (negsuc 9223372036854775807) ≡ ascii "-9223372036854775808"
unfolding digits
least_signed = refl

-- each line with its newline
loss_of_two : loss_line 12 (pos 2) ≡ ascii "loss 12 2\n"
unfolding loss_line digits
loss_of_two = refl

one_too_many : loss_line 7 (negsuc 0) ≡ ascii "loss 7 -1\n"
unfolding loss_line digits
one_too_many = refl

left_of_first : left_line 0 (negsuc 9) 305 ≡ ascii "left 0 -10 305\n"
unfolding left_line digits
left_of_first = refl

clean_end : end_line Clean 3 3 0 ≡ ascii "end clean pops 3 lost 3 extra 0\n"
unfolding end_line digits
clean_end = refl

full_end : end_line Full 2 12 10 ≡ ascii "end full pops 2 lost 12 extra 10\n"
unfolding end_line digits
full_end = refl

longest_end : end_line Stuck 4294967295 18446744073709551615 18446744073709551615 ≡ ascii "end stuck pops 4294967295 lost 18446744073709551615 extra 18446744073709551615\n"
unfolding end_line digits
longest_end = refl

refused_at_131 : refused_line Form 131 ≡ ascii "refused 8 at 131\n"
unfolding refused_line digits
refused_at_131 = refl
