-- Classes of tokens, as functions that read imports and exports test them.
use Rattle.std.proofs.Common.{◌≡◌, Bool, true, false, refl, sym, ap, ◌∙◌}
use Rattle.std.specs.Prelude.{not, ◌||◌}
use Rattle.std.proofs.lemmas.Bool.{false≢true}
use denote.Enum.Bare.{sameb}
use Rattle.tokens.specs.contracts.token.TokenClass.{the_type}
use Rattle.tokens.specs.declared.token.TokenClass.{TokenClass}
use Rattle.tokens.specs.declared.token.TokenClass.TheVariants.{StringLiteral}
use Rattle.language.specs.Token.{same_class}
use Rattle.token_cursor.specs.Seen.{is_word_class}
use Rattle.recursive_descent.specs.ModuleItems.{names_module}

-- a string
pub string_test : (c : TokenClass) → sameb the_type c StringLiteral ≡ same_class StringLiteral c
string_test StringLiteral = refl
string_test _ = refl

-- neither a word nor a string
pub no_name_test : (c : TokenClass) (w e : Bool) → w ≡ is_word_class c → w ≡ false → e ≡ not (sameb the_type c StringLiteral) → e ≡ true → names_module c ≡ false
no_name_test c w e word no_word test missed = (λ i. either (string i) (no i))
  where
    either : Bool → Bool → Bool
    either a b = b || a

    no : is_word_class c ≡ false
    no = sym word ∙ no_word

    string : same_class StringLiteral c ≡ false
    string = of (same_class StringLiteral c) (ap not (string_test c) ∙ refl)
      where
        of : (b : Bool) → not (sameb the_type c StringLiteral) ≡ not b → b ≡ false
        of true h = absurd (false≢true (sym h ∙ sym test ∙ missed))
        of false h = refl
