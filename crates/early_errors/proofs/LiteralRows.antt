-- Examples: templates and regular expressions.
use Rattle.std.specs.Prelude.{◌≡◌, refl, [], ◌∷◌, codes, true, false}
use Rattle.tree.specs.declared.kind.Kind.TheVariants.{AssignmentExpression, BinaryExpression, ExpressionStatement, Literal, Program, TaggedTemplateExpression, TemplateElement, TemplateLiteral}
use Rattle.tree.specs.Tree.{none}
use Rattle.early_errors.specs.Cooked.{cooks}
use Rattle.early_errors.specs.Literals.{good_flags}
use Rattle.early_errors.specs.Early.{errors}
use Rattle.language.proofs.examples.Trees.{id, n, one, t, three, two}
use Rattle.early_errors.proofs.Trees.{computing}

-- `\1`
pub octal_escape : errors (n Program 0 4 (one (n ExpressionStatement 0 4 (one (n TemplateLiteral 0 4 (one (t TemplateElement "\\1" 1 3 none))))))) ≡ (20, 0) ∷ []
unfolding computing
octal_escape = refl

-- a`\1`
pub tagged_octal_escape : errors (n Program 0 5 (one (n ExpressionStatement 0 5 (one (n TaggedTemplateExpression 0 5 (two (id "a" 0) (n TemplateLiteral 1 5 (one (t TemplateElement "\\1" 2 4 none))))))))) ≡ []
unfolding computing
tagged_octal_escape = refl

-- `a${b}\u`
pub escape_in_later_part : errors (n Program 0 9 (one (n ExpressionStatement 0 9 (one (n TemplateLiteral 0 9 (three (t TemplateElement "a" 1 2 none) (id "b" 4) (t TemplateElement "\\u" 6 8 none))))))) ≡ (20, 0) ∷ []
unfolding computing
escape_in_later_part = refl

-- a`${`\x`}`: the inner one has no tag
pub template_in_tagged : errors (n Program 0 10 (one (n ExpressionStatement 0 10 (one (n TaggedTemplateExpression 0 10 (two (id "a" 0) (n TemplateLiteral 1 10 (three (t TemplateElement "" 2 2 none) (n TemplateLiteral 4 8 (one (t TemplateElement "\\x" 5 7 none))) (t TemplateElement "" 9 9 none))))))))) ≡ (20, 4) ∷ []
unfolding computing
template_in_tagged = refl

-- `\1``b`
pub template_as_tag : errors (n Program 0 7 (one (n ExpressionStatement 0 7 (one (n TaggedTemplateExpression 0 7 (two (n TemplateLiteral 0 4 (one (t TemplateElement "\\1" 1 3 none))) (n TemplateLiteral 4 7 (one (t TemplateElement "b" 5 6 none))))))))) ≡ (20, 0) ∷ []
unfolding computing
template_as_tag = refl

-- `\0\x41\u{41}`
pub good_escapes : errors (n Program 0 14 (one (n ExpressionStatement 0 14 (one (n TemplateLiteral 0 14 (one (t TemplateElement "\\0\\x41\\u{41}" 1 13 none))))))) ≡ []
unfolding computing
good_escapes = refl

-- `/a/gg`
pub flag_twice : errors (n Program 0 5 (one (n ExpressionStatement 0 5 (one (t Literal "/a/gg" 0 5 none))))) ≡ (21, 0) ∷ []
unfolding computing
flag_twice = refl

-- `a = /a/x`
pub unknown_flag : errors (n Program 0 8 (one (n ExpressionStatement 0 8 (one (t AssignmentExpression "=" 0 8 (two (id "a" 0) (t Literal "/a/x" 4 8 none))))))) ≡ (21, 4) ∷ []
unfolding computing
unknown_flag = refl

-- `/a/gimsuy`
pub all_flags : errors (n Program 0 9 (one (n ExpressionStatement 0 9 (one (t Literal "/a/gimsuy" 0 9 none))))) ≡ []
unfolding computing
all_flags = refl

-- `/[/]/g`
pub slash_in_brackets : errors (n Program 0 6 (one (n ExpressionStatement 0 6 (one (t Literal "/[/]/g" 0 6 none))))) ≡ []
unfolding computing
slash_in_brackets = refl

-- `a / b / gg`
pub division : errors (n Program 0 10 (one (n ExpressionStatement 0 10 (one (t BinaryExpression "/" 0 10 (two (t BinaryExpression "/" 0 5 (two (id "a" 0) (id "b" 4))) (id "gg" 8))))))) ≡ []
unfolding computing
division = refl

-- raw values with a cooked value
pub no_escape_cooks : cooks (codes "a$") ≡ true
no_escape_cooks = refl

pub null_escape_cooks : cooks (codes "\\0") ≡ true
null_escape_cooks = refl

pub null_and_letter_cooks : cooks (codes "\\0a") ≡ true
null_and_letter_cooks = refl

pub single_escape_cooks : cooks (codes "\\n") ≡ true
single_escape_cooks = refl

pub escaped_backslash_cooks : cooks (codes "\\\\1") ≡ true
escaped_backslash_cooks = refl

pub two_digits_cooks : cooks (codes "\\xa1") ≡ true
two_digits_cooks = refl

pub four_digits_cooks : cooks (codes "\\u00E9") ≡ true
four_digits_cooks = refl

pub braced_cooks : cooks (codes "\\u{10FFFF}") ≡ true
braced_cooks = refl

pub leading_zeros_cooks : cooks (codes "\\u{0000041}") ≡ true
leading_zeros_cooks = refl

pub escaped_letter_cooks : cooks (codes "\\q") ≡ true
escaped_letter_cooks = refl

-- raw values without one
pub null_and_digit_does_not_cook : cooks (codes "\\00") ≡ false
null_and_digit_does_not_cook = refl

pub one_does_not_cook : cooks (codes "\\1") ≡ false
one_does_not_cook = refl

pub eight_does_not_cook : cooks (codes "\\8") ≡ false
eight_does_not_cook = refl

pub one_digit_does_not_cook : cooks (codes "\\x4") ≡ false
one_digit_does_not_cook = refl

pub no_digits_does_not_cook : cooks (codes "\\xg1") ≡ false
no_digits_does_not_cook = refl

pub three_digits_does_not_cook : cooks (codes "\\u123") ≡ false
three_digits_does_not_cook = refl

pub no_number_does_not_cook : cooks (codes "\\u") ≡ false
no_number_does_not_cook = refl

pub empty_braces_does_not_cook : cooks (codes "\\u{}") ≡ false
empty_braces_does_not_cook = refl

pub open_braces_does_not_cook : cooks (codes "\\u{41") ≡ false
open_braces_does_not_cook = refl

pub past_the_last_does_not_cook : cooks (codes "\\u{110000}") ≡ false
past_the_last_does_not_cook = refl

pub other_in_braces_does_not_cook : cooks (codes "\\u{4g}") ≡ false
other_in_braces_does_not_cook = refl

pub later_does_not_cook : cooks (codes "ab\\n\\1") ≡ false
later_does_not_cook = refl

pub no_flags : good_flags (codes "/a/") ≡ true
no_flags = refl

pub capital_flag : good_flags (codes "/a/G") ≡ false
capital_flag = refl

pub distant_repeat : good_flags (codes "/a/gimg") ≡ false
distant_repeat = refl

-- `/a/d`: a flag of a later edition
pub later_flag : errors (n Program 0 4 (one (n ExpressionStatement 0 4 (one (t Literal "/a/d" 0 4 none))))) ≡ (21, 0) ∷ []
unfolding computing
later_flag = refl

-- `/(/`, in the language of 2022 and in the base profile
pub open_group : errors (t Program "2022" 0 3 (one (n ExpressionStatement 0 3 (one (t Literal "/(/" 0 3 none))))) ≡ (37, 0) ∷ []
unfolding computing
open_group = refl

pub open_group_in_the_base : errors (n Program 0 3 (one (n ExpressionStatement 0 3 (one (t Literal "/(/" 0 3 none))))) ≡ []
unfolding computing
open_group_in_the_base = refl

-- `/()/`
pub closed_group : errors (t Program "2022" 0 4 (one (n ExpressionStatement 0 4 (one (t Literal "/()/" 0 4 none))))) ≡ []
unfolding computing
closed_group = refl

-- `/(/gg`
pub flags_and_pattern : errors (t Program "2022" 0 5 (one (n ExpressionStatement 0 5 (one (t Literal "/(/gg" 0 5 none))))) ≡ (21, 0) ∷ (37, 0) ∷ []
unfolding computing
flags_and_pattern = refl

-- `"/(/"`
pub pattern_in_string : errors (t Program "2022" 0 5 (one (n ExpressionStatement 0 5 (one (t Literal "\"/(/\"" 0 5 none))))) ≡ []
unfolding computing
pattern_in_string = refl
