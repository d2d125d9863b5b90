-- The step of each position, from what holds of lower trees.
use Rattle.std.proofs.Common.{◌≡◌, ℕ, suc, Bool, true, false, List, [], ◌∷◌, refl, sym, ap, ◌∙◌}
use Rattle.std.proofs.lemmas.Bool.{false≢true}
use Rattle.std.proofs.lemmas.Slice.Eq.{bytes_eq-Decides}
use Rattle.std.specs.Prelude.{codes, not, ◌||◌}
use Rattle.tree.specs.declared.kind.Pair.{Pair}
use Rattle.tree.specs.Tree.{Tree, text_of}
use Rattle.tree.specs.Uses.{is_empty}
use Rattle.language.specs.declared.Language.{Language}
use Rattle.language.specs.declared.Language.TheVariants.{Base, Script, Module}
use Rattle.language.specs.Languages.{Seen, seen_in, is_tree_of}
use Rattle.language.specs.Later.{has_later}
use Rattle.language.proofs.statements.ScriptFound.{ProgramForm, a_script, a_module, program_form}
use Rattle.language.proofs.texts.BaseLanguage.{base_is_a_language}
use Rattle.language.proofs.texts.SeenTokens.{seen_determined, seen_alike}
use Rattle.tokens.specs.Reading.{any_goal}
use Rattle.language.specs.Token.{Token}
use Rattle.language.specs.ExpressionStart.{ExpressionStart, with_name, with_bracket, with_brace, with_function, with_template, with_parenthesis, with_super, with_new, with_import, with_yield, with_private_name, with_step, with_word, with_sign}
use Rattle.language.specs.StatementStart.{StatementStart, a_variable, an_if, a_do, a_while, a_for, a_switch, a_try, a_function, a_class, an_expression}
use Rattle.language.specs.Promises.{IsDetermined}
use Rattle.language.specs.Following.{IsAlike}
use Rattle.language.specs.Places.{NextIn, itself}
use Rattle.language.proofs.texts.TextOffsets.{text_determined}
use Rattle.language.proofs.texts.TextAlike.{text_alike}
use Rattle.unambiguity_laws.specs.Laws.{AtMostOneScript, AtMostOneScriptIn}
use Rattle.unambiguity_laws.proofs.Unique.{Expressions, Unique, CoreStep, StatementStep}
use Rattle.unambiguity_laws.proofs.TiedSteps.{ExpressionSteps, OtherSteps, Steps, any_script}
use Rattle.unambiguity_laws.proofs.list_items.PatternLists.{array_parts_unique, argument_pieces_unique, parameter_list_unique, pattern_closed}
use Rattle.unambiguity_laws.proofs.list_items.TemplateElements.{quasi_closed, template_core}
use Rattle.unambiguity_laws.proofs.list_items.Elements.{element_step}
use Rattle.unambiguity_laws.proofs.list_items.ElementSteps.{element_ends_step}
use Rattle.unambiguity_laws.proofs.list_items.Properties.{property_step}
use Rattle.unambiguity_laws.proofs.list_items.PropertySteps.{property_ends_step}
use Rattle.unambiguity_laws.proofs.list_items.ObjectLists.{object_parts_unique}
use Rattle.unambiguity_laws.proofs.cores.BracketCores.{bracket_core, brace_core}
use Rattle.unambiguity_laws.proofs.list_items.GroupEnds.{group_parameters, parameters_group}
use Rattle.unambiguity_laws.proofs.cores.ParenthesisCores.{GroupParameters, ParametersGroup, parenthesis_core}
use Rattle.unambiguity_laws.proofs.cores.SuperCores.{super_core}
use Rattle.unambiguity_laws.proofs.cores.NewCores.{new_core, new_callee}
use Rattle.unambiguity_laws.proofs.turns.ChainTurns.{chain_turn}
use Rattle.unambiguity_laws.proofs.cores.NameCores.{name_core}
use Rattle.unambiguity_laws.proofs.cores.WordCores.{function_core, lone_core}
use Rattle.unambiguity_laws.proofs.cores.ImportCores.{import_core}
use Rattle.unambiguity_laws.proofs.cores.PrivateCores.{private_step}
use Rattle.unambiguity_laws.proofs.cores.PrefixCores.{word_core, sign_core, step_core}
use Rattle.unambiguity_laws.proofs.cores.YieldCores.{yield_step}
use Rattle.unambiguity_laws.proofs.statements.FunctionBodies.{class_statement}
use Rattle.unambiguity_laws.proofs.statements.FunctionStatements.{function_statement}
use Rattle.unambiguity_laws.proofs.list_items.ClassMembers.{method_closed}
use Rattle.unambiguity_laws.proofs.list_items.MembersOnce.{member_unique}
use Rattle.unambiguity_laws.proofs.list_items.MemberLists.{class_body_closed}
use Rattle.unambiguity_laws.proofs.statements.StatementsByToken.{lone_statement, statement_step}
use Rattle.unambiguity_laws.proofs.statements.ConditionStatements.{if_statement, do_statement, while_statement}
use Rattle.unambiguity_laws.proofs.statements.ExpressionStatements.{expression_statement}
use Rattle.unambiguity_laws.proofs.statements.Declarations.{declarator_step}
use Rattle.unambiguity_laws.proofs.list_items.DeclarationLists.{variable_statement}
use Rattle.unambiguity_laws.proofs.statements.ForStatements.{for_statement}
use Rattle.unambiguity_laws.proofs.statements.Switches.{switch_statement}
use Rattle.unambiguity_laws.proofs.statements.Tries.{handler_closed, try_statement}
use Rattle.unambiguity_laws.proofs.statements.Bodies.{block_closed, body_closed, script_unique}

module _ (S : Type 0) (Next : S → Token → S → Type 0) (behind : S → Token) (det : IsDetermined S Next behind) (alike : IsAlike S Next behind) where
  -- Of one height, from the heights below.
  module _ {h : ℕ} (u : Unique S Next behind det h) where
    parameters_end : GroupParameters S Next behind h
    parameters_end = record { gives = λ {o} {x} {e1} {mid} {n} {t} {P} low found close. group_parameters S Next behind det alike u low found close }

    groups_end : ParametersGroup S Next behind h
    groups_end = record { gives = λ {o} {x} {mid} {ps} {P} low ran. parameters_group S Next behind det alike u low ran }

    core : (z : ExpressionStart) → CoreStep S Next behind det h z
    core with_name = name_core S Next behind det alike u (parameter_list_unique S Next behind det alike u)
    core with_bracket = bracket_core S Next behind det alike u (array_parts_unique S Next behind det alike u)
    core with_brace = brace_core S Next behind det alike u (object_parts_unique S Next behind det alike u)
    core with_function = function_core S Next behind det alike u (parameter_list_unique S Next behind det alike u)
    core with_template = template_core S Next behind det alike u
    core with_parenthesis = parenthesis_core S Next behind det alike u parameters_end groups_end (parameter_list_unique S Next behind det alike u)
    core with_super = super_core S Next behind det alike u (argument_pieces_unique S Next behind det alike u)
    core with_new = new_core S Next behind det alike u (argument_pieces_unique S Next behind det alike u)
    core with_import = import_core S Next behind det alike u
    core with_yield = yield_step S Next behind det alike u
    core with_private_name = private_step S Next behind det alike u
    core with_step = step_core S Next behind det alike u
    core with_word = word_core S Next behind det alike u
    core with_sign = sign_core S Next behind det alike u
    core z = lone_core S Next behind det alike u z refl

    expressions : ExpressionSteps S Next behind det h
    expressions =
        let called = argument_pieces_unique S Next behind det alike u in
        record {
          arguments = called;
          chain_turn = chain_turn S Next behind det alike u called;
          core = core;
          new_callee = new_callee S Next behind det alike u called;
        }

    statement : (b : StatementStart) → StatementStep S Next behind det h b
    statement a_variable = variable_statement S Next behind det alike u
    statement an_if = if_statement S Next behind det alike u
    statement a_do = do_statement S Next behind det alike u
    statement a_while = while_statement S Next behind det alike u
    statement a_for = for_statement S Next behind det alike u
    statement a_switch = switch_statement S Next behind det alike u
    statement a_try = try_statement S Next behind det alike u
    statement a_function = function_statement S Next behind det alike u (parameter_list_unique S Next behind det alike u)
    statement a_class = class_statement S Next behind det alike u
    statement an_expression = expression_statement S Next behind det alike u (parameter_list_unique S Next behind det alike u)
    statement b = lone_statement S Next behind det alike u b refl

    others : Expressions S Next behind det (suc h) → OtherSteps S Next behind det h
    others x = record {
      quasi_closed = λ {o} {n} {s} {e} {P} low d. quasi_closed S Next behind det alike u low d;
      pattern_closed = λ {b} {f} {o} {n} {s} {e} {P} low d. pattern_closed S Next behind det alike u low d;
      method_closed = λ {x = f} {o} {n} {s} {e} {P} low d. method_closed S Next behind det alike u (parameter_list_unique S Next behind det alike u) low d;
      body_closed = λ {o} {n} {s} {e} {P} low d. body_closed S Next behind det alike u low d;
      block_closed = λ {r} {o} {n} {s} {e} {P} low d. block_closed S Next behind det alike u low d;
      handler_closed = λ {r} {o} {n} {s} {e} {P} low d. handler_closed S Next behind det alike u low d;
      class_body_closed = λ {o} {n} {s} {e} {P} low d. class_body_closed S Next behind det alike u low d;
      member = λ {o} {n} {s} {e} {P} low d ends. member_unique S Next behind det alike u low d ends;
      statement = λ {a} {p} {d} {r} {o} {n} {s} {e} {P} st low d1 fine. statement_step S Next behind det alike u statement st low d1 fine;
      declarator = λ {i} {b} {o} {n} {s} {e} {P} low d fine. declarator_step S Next behind det alike u x low d fine;
      element = λ y {w} {a} {o} {n} {s} {e} {P} c low it d ends. element_step S Next behind det alike u x y c low it d ends;
      element_ends = λ y z {w} {a} {b} {o} {o'} {n} {m} {s} {e} {k} {P} {Q} c low it d ends it' d' ends'. element_ends_step S Next behind det alike u x y z c low it d ends it' d' ends';
      property = λ y {a} {o} {n} {s} {e} {P} low it d ends. property_step S Next behind det alike u y low it d ends;
      property_ends = λ y z {a} {b} {o} {o'} {n} {m} {s} {e} {k} {P} {Q} low it d ends it' d' ends'. property_ends_step S Next behind det alike u y z low it d ends it' d' ends';
    }

  -- Of every height.
  pub steps : Steps S Next behind det alike
  steps = record {
    expression_steps = λ {h} u. expressions u;
    other_steps = λ {h} u x. others u x;
    script_unique = λ {h} {o} {n} {s} {e} {P} u low d. script_unique S Next behind det alike u (parameter_list_unique S Next behind det alike u) low d;
  }

-- the text of a language's Program
abbrev language_text : Language → List ℕ
language_text Base = []
language_text Script = codes "2022"
language_text Module = codes "module"

without : (w : List ℕ) (x : Bool) → (not (is_empty w) || x) ≡ false → w ≡ []
without [] x h = refl
without (c ∷ cs) x h = absurd (false≢true (sym h))

unlater : (b : Bool) → not b ≡ true → b ≡ false
unlater true h = sym h
unlater false h = refl

-- a Program without nodes of later languages has no text
module _ {S : Type 0} {Next : S → Token → S → Type 0} {behind : S → Token} where
  base_text : {o : ℕ} {n : Tree} {s e : S} {P : List Pair} → ProgramForm S Next behind o n s e P → has_later n ≡ false → text_of n ≡ []
  unfolding has_later
  base_text (a_script {w = w} b tree runs) h = ap text_of tree ∙ without w _ (ap has_later (sym tree) ∙ h)
  base_text (a_module {w = w} b c tree runs) h = ap text_of tree ∙ without w _ (ap has_later (sym tree) ∙ h)

-- a text derives at most one script of a language
pub one_script_in : AtMostOneScriptIn
one_script_in language text n m P Q d d' =
    let det = seen_determined Token (NextIn text any_goal) itself language (text_determined text) in
    let alike = seen_alike Token (NextIn text any_goal) itself language (text_alike text) in
    let found = any_script Token (Seen Token (NextIn text any_goal) language) (seen_in language) det alike (steps Token (Seen Token (NextIn text any_goal) language) (seen_in language) det alike) d.1.2 in
    let same = found.only d'.0 d'.1.1 m Q d'.1.2 (told language m (program_form _ _ _ d'.1.2) d'.1.0 ∙ sym (told language n (program_form _ _ _ d.1.2) d.1.0)) in
    (same.1, same.2)
  where
    told : (l : Language) (n : Tree) {S : Type 0} {Next : S → Token → S → Type 0} {behind : S → Token} {o : ℕ} {s e : S} {P : List Pair} → ProgramForm S Next behind o n s e P → is_tree_of l n ≡ true → text_of n ≡ language_text l
    told Base n v h = base_text v (unlater (has_later n) h)
    told Script n v h = (bytes_eq-Decides (text_of n) (codes "2022")).0 h
    told Module n v h = (bytes_eq-Decides (text_of n) (codes "module")).0 h

-- nor more than one of the base profile
pub one_script : AtMostOneScript
one_script text n m P Q no_n d no_m d' =
    one_script_in Base text n m P Q (d.0, (base_is_a_language d.0 text n P).1 (d.1, no_n)) (d'.0, (base_is_a_language d'.0 text m Q).1 (d'.1, no_m))
