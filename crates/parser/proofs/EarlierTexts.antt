-- What a text derived by the 11th edition it derives in the base profile.
use Rattle.std.proofs.Common.{◌≡◌, ℕ, List, subst, sym}
use Rattle.std.specs.Str.{IsUtf8}
use Rattle.tree.specs.declared.kind.Pair.{Pair}
use Rattle.tree.specs.Tree.{Tree}
use Rattle.language.specs.declared.Language.{Language}
use Rattle.language.specs.declared.Language.TheVariants.{Base}
use Rattle.language.specs.Token.{Token}
use Rattle.language.specs.Places.{itself}
use Rattle.language.specs.Earlier.{EarlierNextIn, EarlierDerivesOpen}
use Rattle.language.specs.Languages.{DerivesOpenIn}
use Rattle.language.proofs.texts.BaseLanguage.{base_is_a_language}
use Rattle.language.proofs.texts.EarlierScripts.{earlier_scripts_stay}
use Rattle.unambiguity_laws.proofs.EarlierTrees.{spells_none_later}

pub earlier_derives : (language : Language) (o : ℕ) (text : List ℕ) (n : Tree) (P : List Pair) → language ≡ Base → IsUtf8 text → EarlierDerivesOpen o text n P → DerivesOpenIn language o text n P
earlier_derives language o text n P base utf8 d =
    subst (λ l. DerivesOpenIn l o text n P) (sym base) ((base_is_a_language o text n P).1 (earlier_scripts_stay o text n P utf8 d, spells_none_later Token (EarlierNextIn text) itself d.1))
