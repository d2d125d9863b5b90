-- Names, strings and specifiers of imports and exports are what they are read as (ECMA-262, 13th edition, 16.2).
use Rattle.std.proofs.Common.{◌≡◌, ℕ, true, false, cond, [], ◌∷◌, refl, sym, ap, ◌∙◌, subst}
use Rattle.std.specs.Prelude.{codes}
use Rattle.std.proofs.lemmas.Bool.{false≢true}
use Rattle.tokens.specs.Tokens.{LexicalToken}
use Rattle.tokens.specs.declared.token.TokenClass.{TokenClass}
use Rattle.tokens.specs.declared.token.TokenClass.TheVariants.{IdentifierName, Punctuator, StringLiteral, Template, Keyword}
use Rattle.tree.specs.declared.kind.Kind.{Kind}
use Rattle.tree.specs.declared.kind.Kind.TheVariants.{Identifier, Literal, ImportSpecifier, ImportDefaultSpecifier, ImportNamespaceSpecifier, ExportSpecifier}
use Rattle.tree.specs.declared.kind.Flags.{Flags}
use Rattle.tree.specs.declared.kind.Form.TheVariants.{Shorthand}
use Rattle.tree.specs.Tree.{Tree, node, Parts, none, part, plain, bare, bare_parts}
use Rattle.tree.specs.Uses.{is_lean}
use Rattle.language.specs.declared.Rank.TheVariants.{Primary}
use Rattle.language.specs.Vocabulary.{is_string, literal_class, is_identifier}
use Rattle.language.specs.Pieces.{name, word, directive_string, specifier, Spelling, at, tok, put, sign, term, sp}
use Rattle.language.specs.Expressions.{module_name}
use Rattle.language.specs.Statements.{specifiers}
use Rattle.language.specs.Token.{Token, as_read, same_class}
use Rattle.language.specs.Grammar.{spellings}
use Rattle.language.specs.Derivation.{Among, first, direct, placed, done, step, within, token, laid}
use Rattle.language.proofs.lower_bound.Domination.{settled, fits}
use Rattle.language.proofs.table.Productions.{way_from}
use Rattle.language.proofs.climbing.Leaves.{is_worded, word_found}
use Rattle.token_cursor.specs.SourceText.{SourceText, SeenNext, behind_in}
use Rattle.token_cursor.specs.Seen.{ReadsHere, is_word_class}
use Rattle.token_cursor.proofs.SeenTokens.{seen_determined}
use Rattle.parser_tables.specs.Tokens.{single_node}
use Rattle.recursive_descent.specs.Soundness.{RunsIn, anywhere}
use Rattle.recursive_descent.specs.Spelled.{SpellsIn}
use Rattle.recursive_descent.specs.ModuleItems.{names_module, name_kind}
use Rattle.recursive_descent.proofs.reading.LiteralTokens.{is_literal_class, literal_read}
use Rattle.recursive_descent.proofs.reading.SeenNames.{keyword_told}
use Rattle.recursive_descent.proofs.sound_subscripts.SubscriptReads.{no_template_text}

no_template : (c : TokenClass) → names_module c ≡ true → same_class Template c ≡ false
no_template Template h = absurd (false≢true h)
no_template _ h = refl

module _ (text : SourceText) where
  pub token_text : (t : LexicalToken) → names_module t.class ≡ true → (as_read t).text ≡ t.text
  token_text t h = no_template_text t.class t.text (no_template t.class h)

  same_stop : {s e : Token} (t : LexicalToken) → SeenNext text s (as_read t) e → t.stop ≡ e.stop
  same_stop {s} {e} t next = sym (ap (λ (x : Token). x.stop) ((seen_determined text).last s (as_read t) e next))

  -- the string of a source
  pub source_spelled : {o : ℕ} {s e : Token} (t : LexicalToken) → SeenNext text s (as_read t) e → t.class ≡ StringLiteral → SpellsIn text o directive_string (single_node Literal t) s e []
  unfolding spellings
  source_spelled {o} {s} {e} t next h =
      let same : (as_read t).text ≡ t.text = token_text t (ap names_module h) in
      let quoted : is_string (literal_class t.text) ≡ true = ap is_string (sym (ap literal_class same) ∙ (literal_read next (ap is_literal_class h) ∙ h)) in
      let x : Spelling = at Primary (tok StringLiteral t.text ∷ []) in
      let listed : Among x (cond (is_string (literal_class t.text)) (x ∷ []) []) = subst (λ b. Among x (cond b (x ∷ []) [])) (sym quoted) first in
      subst (λ z. SpellsIn text o directive_string (node Literal t.text plain t.start z none) s e []) (sym (same_stop t next))
      (direct (settled directive_string x) (way_from directive_string (node Literal t.text plain t.start e.stop none) x refl listed refl) (placed next refl) (step (token (record { next = next; class = h; text = same })) done))

  -- a word
  pub word_spelled : {o : ℕ} {s e : Token} (t : LexicalToken) → SeenNext text s (as_read t) e → is_word_class t.class ≡ true → SpellsIn text o word (single_node Identifier t) s e []
  word_spelled {o} {s} {e} t next h = of t.class refl h
    where
      stopped : (c : TokenClass) → t.class ≡ c → names_module c ≡ true → is_worded c (as_read t).text ≡ true → SpellsIn text o word (single_node Identifier t) s e []
      stopped c k n w =
          subst (λ v. SpellsIn text o word (node Identifier v plain t.start t.stop none) s e []) (token_text t (ap names_module k ∙ n))
          (subst (λ z. SpellsIn text o word (node Identifier (as_read t).text plain t.start z none) s e []) (sym (same_stop t next))
          (word_found Token (SeenNext text) (behind_in text) (seen_determined text) {o = o} {c = c} w (record { next = next; class = k; text = refl })).spelled)

      of : (c : TokenClass) → t.class ≡ c → is_word_class c ≡ true → SpellsIn text o word (single_node Identifier t) s e []
      of IdentifierName k h = stopped IdentifierName k refl refl
      of Keyword k h = stopped Keyword k refl (keyword_told next k)
      of _ k h = absurd (false≢true h)

  -- a name or a string where either may stand
  pub module_named : {o : ℕ} {s e : Token} (t : LexicalToken) → SeenNext text s (as_read t) e → names_module t.class ≡ true →
      SpellsIn text o (cond (is_identifier (name_kind t.class)) word directive_string) (single_node (name_kind t.class) t) s e []
  module_named {o} {s} {e} t next h = of t.class refl h
    where
      of : (c : TokenClass) → t.class ≡ c → names_module c ≡ true → SpellsIn text o (cond (is_identifier (name_kind c)) word directive_string) (single_node (name_kind c) t) s e []
      of StringLiteral k h = source_spelled t next k
      of IdentifierName k h = word_spelled t next (ap is_word_class k)
      of Keyword k h = word_spelled t next (ap is_word_class k)
      of _ k h = absurd (false≢true h)

  pub module_name_runs : {o : ℕ} {s e : Token} (t : LexicalToken) → SeenNext text s (as_read t) e → names_module t.class ≡ true →
      RunsIn text o (anywhere (module_name (single_node (name_kind t.class) t) ∷ [])) (part (single_node (name_kind t.class) t) none) s e []
  module_name_runs t next h = within (module_named t next h) done

  -- A specifier by its pieces

  specified : {o : ℕ} {s m e t : Token} {k : Kind} {g : Flags} {ps : Parts} (x : Spelling) → SeenNext text s t m → is_lean (bare (node k [] g t.start e.stop ps)) ≡ true → Among x (specifiers k g.form (bare_parts ps)) → fits specifier x ≡ true →
      RunsIn text o (anywhere x.pieces) ps s e [] → SpellsIn text o specifier (node k [] g t.start e.stop ps) s e []
  unfolding spellings
  specified {e = e} {t = t} {k = k} {g = g} {ps = ps} x next lean listed f d =
      direct (settled specifier x) (way_from specifier (node k [] g t.start e.stop ps) x lean listed f) (placed next refl) d

  -- of a default import, of all names of a module
  pub default_specified : {o : ℕ} {s m e t : Token} {left : Tree} → SeenNext text s t m → SpellsIn text o name left s e [] → SpellsIn text o specifier (node ImportDefaultSpecifier [] plain t.start e.stop (part left none)) s e []
  default_specified next d = specified (at Primary (put name ∷ [])) next refl first refl (within d done)

  pub namespace_specified : {o : ℕ} {s a b e : Token} {left : Tree} → ReadsHere text Punctuator (codes "*") s a → ReadsHere text IdentifierName (codes "as") a b → SpellsIn text o name left b e [] →
      SpellsIn text o specifier (node ImportNamespaceSpecifier [] plain a.start e.stop (part left none)) s e []
  namespace_specified star as_word d = specified (at Primary (sign "*" ∷ sp ∷ term "as" ∷ sp ∷ put name ∷ [])) star.next refl first refl (step (token star) (step laid (step (token as_word) (step laid (within d done)))))

  -- one name, which an import binds
  pub import_alone : {o : ℕ} {s m e t : Token} {left : Tree} → SeenNext text s t m → SpellsIn text o name left s e [] → SpellsIn text o specifier (node ImportSpecifier [] (record plain { form = Shorthand }) t.start e.stop (part left none)) s e []
  import_alone next d = specified (at Primary (put name ∷ [])) next refl first refl (within d done)

  pub export_alone : {o : ℕ} {s e : Token} (t : LexicalToken) → SeenNext text s (as_read t) e → names_module t.class ≡ true →
      SpellsIn text o specifier (node ExportSpecifier [] (record plain { form = Shorthand }) t.start e.stop (part (single_node (name_kind t.class) t) none)) s e []
  export_alone t next h = specified (at Primary (module_name (single_node (name_kind t.class) t) ∷ [])) next refl first refl (within (module_named t next h) done)

  -- two names
  pub import_renamed : {o : ℕ} {s a b e : Token} {left : Tree} (t : LexicalToken) → SeenNext text s (as_read t) a → names_module t.class ≡ true → ReadsHere text IdentifierName (codes "as") a b → SpellsIn text o name left b e [] →
      SpellsIn text o specifier (node ImportSpecifier [] plain t.start e.stop (part (single_node (name_kind t.class) t) (part left none))) s e []
  import_renamed t next h as_word d =
      specified (at Primary (module_name (single_node (name_kind t.class) t) ∷ sp ∷ term "as" ∷ sp ∷ put name ∷ [])) next refl first refl (within (module_named t next h) (step laid (step (token as_word) (step laid (within d done)))))

  pub export_renamed : {o : ℕ} {s a b e : Token} {left : Tree} (t : LexicalToken) → SeenNext text s (as_read t) a → names_module t.class ≡ true → ReadsHere text IdentifierName (codes "as") a b → RunsIn text o (anywhere (module_name left ∷ [])) (part left none) b e [] →
      SpellsIn text o specifier (node ExportSpecifier [] plain t.start e.stop (part (single_node (name_kind t.class) t) (part left none))) s e []
  export_renamed {left = node k w g st en ps} t next h as_word d =
      specified (at Primary (module_name (single_node (name_kind t.class) t) ∷ sp ∷ term "as" ∷ sp ∷ module_name (node k w g st en ps) ∷ [])) next refl first refl (within (module_named t next h) (step laid (step (token as_word) (step laid d))))
