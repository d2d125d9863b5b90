-- Worked examples of patterns with long numbers.
use Rattle.std.specs.Prelude.{◌≡◌, codes, Some, None, refl}
use Rattle.std.specs.Char.{encode_utf8}
use Rattle.unicode_ident.proofs.Computing.{unicode_ident}
use Rattle.regular_expressions.specs.Patterns.{first_fault}

long_count : first_fault (codes "/a{99999999999999999999}/") ≡ None
unfolding unicode_ident encode_utf8
long_count = refl

long_order : first_fault (codes "/a{99999999999999999998,99999999999999999999}/") ≡ None
unfolding unicode_ident encode_utf8
long_order = refl

long_disorder : first_fault (codes "/a{99999999999999999999,99999999999999999998}/") ≡ Some 2
unfolding unicode_ident encode_utf8
long_disorder = refl

long_reference : first_fault (codes "/(a)\\18446744073709551617/") ≡ Some 4
unfolding unicode_ident encode_utf8
long_reference = refl
