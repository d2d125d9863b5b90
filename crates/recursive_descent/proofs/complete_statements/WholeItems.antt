-- The items of a whole text, by its language: those of a script, or of a module (ECMA-262 15.1; 16.2 of the 13th edition).
use Rattle.std.proofs.Common.{◌≡◌, ◌≤◌, ◌-◌, true, false, List, [], Result, refl, sym, ap, ◌∙◌, subst, ◌⊎◌, inl, inr}
use Rattle.source_text.specs.declared.fault.Fault.{Fault}
use Rattle.tokens.specs.declared.token.Goal.TheVariants.{Div}
use Rattle.token_cursor.specs.CursorState.{CursorState}
use Rattle.token_cursor.specs.SourceText.{SourceText}
use Rattle.token_cursor.specs.Seen.{SeesBy}
use Rattle.tree.specs.declared.kind.Pair.{Pair}
use Rattle.tree.specs.Tree.{Parts, parts_height}
use Rattle.language.specs.declared.Language.{Language}
use Rattle.language.specs.declared.Language.TheVariants.{Base, Script, Module}
use Rattle.language.specs.Claims.{max_height}
use Rattle.language.specs.Languages.{beginning_in}
use Rattle.language.specs.Later.{some_has_later}
use Rattle.language.specs.Statements.{prologue, module_prologue}
use Rattle.parser_tables.specs.declared.statements.StatementListEnd.TheVariants as until
use Rattle.parser_tables.specs.declared.statements.StatementContext.{StatementContext}
use Rattle.parser_tables.specs.Tests.{ends}
use Rattle.recursive_descent.specs.Soundness.{RunsIn, anywhere, Adds}
use Rattle.recursive_descent.specs.SoundnessOfStatements.{StatementsAt}
use Rattle.recursive_descent.specs.Complete.{StatementsComplete}
use Rattle.recursive_descent.specs.Later.{ModuleComplete}
use Rattle.recursive_descent.specs.Spelled.{AllOfLanguage}
use Rattle.recursive_descent.proofs.reading.AddedPairs.{adds_behind}
use Rattle.recursive_descent.proofs.sound_statements.Scripts.{items_of}
use Rattle.recursive_descent.proofs.complete_statements.ScriptGiven.{ItemsComplete}

-- what both are given as to what makes the Program
pub record WholeItems (text : SourceText) (s e : CursorState) (old new : List Pair) (nodes : Parts) : Type 0 where
  pub same : e.text ≡ s.text
  pub derived : Adds s e old new (λ o a b P. RunsIn s.text o (anywhere (items_of text.language nodes)) nodes a b P)
  pub ended : SeesBy e.text Div (ends until.EndOfText) e.last
  pub low : parts_height nodes ≤ max_height - 1
  pub own : AllOfLanguage text nodes

-- the context of the first item
abbrev pub first_item : StatementContext
first_item = record { is_item = true; is_prologue = true; returns = false }

by_script : (l : Language) (ps : Parts) → (l ≡ Base) ⊎ (l ≡ Script) → items_of l ps ≡ prologue false true [] [] ps
by_script l ps (inl h) = ap (λ k. items_of k ps) h
by_script l ps (inr h) = ap (λ k. items_of k ps) h

by_module : (l : Language) (ps : Parts) → l ≡ Module → items_of l ps ≡ module_prologue true ps
by_module l ps h = ap (λ k. items_of k ps) h

module _ (text : SourceText) (s e : CursorState) (old new : List Pair) (text_is : s.text ≡ text) where
  -- of a script
  module _ (of_script : (text.language ≡ Base) ⊎ (text.language ≡ Script)) where
    pub script_items : (nodes : Parts) → e.text ≡ s.text → Adds s e old new (StatementsAt s.text first_item nodes) → SeesBy e.text Div (ends until.EndOfText) e.last → parts_height nodes ≤ max_height - 1 → AllOfLanguage s.text nodes → WholeItems text s e old new nodes
    script_items nodes same a ended low own = record {
      same = same;
      derived = adds_behind refl refl a (λ o Q d. subst (λ qs. RunsIn s.text o (anywhere qs) nodes s.last e.last Q) (sym (by_script text.language nodes of_script)) (d refl));
      ended = ended;
      low = low;
      own = subst (λ t. AllOfLanguage t nodes) text_is own;
    }

    pub script_complete : (last_is : s.last ≡ beginning_in text.language text.bytes) (result : Result Parts Fault) → StatementsComplete s e old new (max_height - 1) until.EndOfText first_item result → ItemsComplete s e old new text text_is last_is result
    script_complete last_is result complete = λ ps o to P d ended own. complete ps o to P refl (subst (λ qs. RunsIn s.text o (anywhere qs) ps s.last to P) (by_script text.language ps of_script) d) ended own

  -- of a module
  module _ (of_module : text.language ≡ Module) where
    pub module_items : (nodes : Parts) → e.text ≡ s.text → Adds s e old new (λ o a b P. RunsIn s.text o (anywhere (module_prologue true nodes)) nodes a b P) → SeesBy e.text Div (ends until.EndOfText) e.last → parts_height nodes ≤ max_height - 1 → WholeItems text s e old new nodes
    module_items nodes same a ended low = record {
      same = same;
      derived = adds_behind refl refl a (λ o Q d. subst (λ qs. RunsIn s.text o (anywhere qs) nodes s.last e.last Q) (sym (by_module text.language nodes of_module)) d);
      ended = ended;
      low = low;
      own = record { none_later = λ base. no_base (sym of_module ∙ base) };
    }
      where
        no_base : Module ≡ Base → some_has_later nodes ≡ false
        no_base h = cc

    pub module_complete : (last_is : s.last ≡ beginning_in text.language text.bytes) (result : Result Parts Fault) → ModuleComplete s e old new (max_height - 1) result → ItemsComplete s e old new text text_is last_is result
    module_complete last_is result complete = λ ps o to P d ended own. complete ps o to P (subst (λ qs. RunsIn s.text o (anywhere qs) ps s.last to P) (by_module text.language ps of_module) d) ended own
