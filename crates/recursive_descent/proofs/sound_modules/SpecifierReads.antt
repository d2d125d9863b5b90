-- A specifier from the names that are read of it (ImportSpecifier, ExportSpecifier; ECMA-262, 13th edition, 16.2).
use Rattle.std.proofs.Common.{◌≡◌, ℕ, true, [], Result, refl, sym, ap, ◌∙◌, subst}
use Rattle.std.specs.Prelude.{IfOk, codes, ◌&&◌}
use Rattle.std.proofs.lemmas.Bool.{false≢true, and_parts}
use Rattle.source_text.specs.declared.fault.Fault.{Fault}
use Rattle.tokens.specs.declared.token.TokenClass.{TokenClass}
use Rattle.tokens.specs.declared.token.TokenClass.TheVariants.{IdentifierName}
use Rattle.tokens.specs.Tokens.{LexicalToken}
use Rattle.token_cursor.specs.CursorState.{CursorState}
use Rattle.tree.specs.declared.kind.Kind.{Kind}
use Rattle.tree.specs.declared.kind.Kind.TheVariants.{ImportSpecifier, ExportSpecifier}
use Rattle.tree.specs.declared.kind.Form.TheVariants.{Shorthand}
use Rattle.tree.specs.Tree.{Tree, node, none, part, plain}
use Rattle.productions.specs.Made.{Makes}
use Rattle.language.specs.Pieces.{name, specifier}
use Rattle.language.specs.Token.{Token, as_read, same_class}
use Rattle.language.proofs.table.Beginnings.{form_flags}
use Rattle.token_cursor.specs.SourceText.{SourceText, SeenNext, behind_in}
use Rattle.token_cursor.specs.Seen.{ReadsHere, NameHere, is_free_name}
use Rattle.token_cursor.proofs.SeenTokens.{seen_determined}
use Rattle.parser_tables.specs.Tokens.{single_node}
use Rattle.recursive_descent.specs.Spelled.{SpellsIn}
use Rattle.recursive_descent.specs.ModuleItems.{names_module, name_kind, is_listed, SecondAt, SpecifierAt}
use Rattle.recursive_descent.proofs.reading.SeenClasses.{name_place}
use Rattle.recursive_descent.proofs.sound_statements.TokenSymbols.{name_spelled}
use Rattle.recursive_descent.proofs.sound_modules.ModuleNames.{token_text, import_alone, import_renamed, export_alone, export_renamed}
use Rattle.recursive_descent.proofs.complete_modules.NamesGiven.{made_ok, name_node}

of_name : (c : TokenClass) → same_class IdentifierName c ≡ true → c ≡ IdentifierName
of_name IdentifierName h = refl
of_name _ h = absurd (false≢true h)

module _ (text : SourceText) where
  -- a name that is read
  pub name_here : {s k : Token} (t : LexicalToken) → SeenNext text s (as_read t) k → (same_class IdentifierName t.class && is_free_name t.text) ≡ true → NameHere text is_free_name s k × (k ≡ as_read t)
  name_here {s} {k} t next h =
      let both = and_parts (same_class IdentifierName t.class) (is_free_name t.text) h in
      let class : t.class ≡ IdentifierName = of_name t.class both.0 in
      let seen : behind_in text k ≡ as_read t = (seen_determined text).last s (as_read t) k next in
      let place : behind_in text k ≡ k = name_place text k (ap (λ (x : Token). x.class) seen ∙ class) in
      let same : k ≡ as_read t = sym place ∙ seen in
      let free : is_free_name k.text ≡ true = ap (λ (x : Token). is_free_name x.text) same ∙ ap is_free_name (token_text text t (ap names_module class)) ∙ both.1 in
      ((record { next = subst (λ x. SeenNext text s x k) (sym seen) next; class = ap (λ (x : Token). x.class) seen ∙ class; text = refl }, free), same)

  bound : {o : ℕ} {s k : Token} (t : LexicalToken) → SeenNext text s (as_read t) k → (same_class IdentifierName t.class && is_free_name t.text) ≡ true → SpellsIn text o name (single_node (name_kind t.class) t) s k []
  bound {o} {s} {k} t next h =
      let here = name_here t next h in
      let class : t.class ≡ IdentifierName = of_name t.class (and_parts (same_class IdentifierName t.class) (is_free_name t.text) h).0 in
      subst (λ n. SpellsIn text o name n s k []) (sym (ap (λ c. single_node (name_kind c) t) class ∙ name_node text t here.0 here.1)) (name_spelled text here.0)

module _ (s e : CursorState) (high : ℕ) (kind : Kind) (result : Result Tree Fault) (t : LexicalToken) (k : Token) (read : SeenNext s.text s.last (as_read t) k) (names : names_module t.class ≡ true) where
  -- one name
  pub alone_derived : (m : Tree) → (kind ≡ ImportSpecifier → (same_class IdentifierName t.class && is_free_name t.text) ≡ true) → m ≡ single_node (name_kind t.class) t → k ≡ e.last → Makes (node kind [] (form_flags Shorthand) t.start e.last.stop (part m none)) high result → IfOk result (SpecifierAt kind s e)
  alone_derived m free one place made = made_ok (node kind [] (form_flags Shorthand) t.start e.last.stop (part m none)) high result (SpecifierAt kind s e) made (λ listed. (refl, λ o. of kind free listed))
    where
      here : SeenNext s.text s.last (as_read t) e.last
      here = subst (λ c. SeenNext s.text s.last (as_read t) c) place read

      of : {o : ℕ} (K : Kind) → (K ≡ ImportSpecifier → (same_class IdentifierName t.class && is_free_name t.text) ≡ true) → is_listed K ≡ true → SpellsIn s.text o specifier (node K [] (form_flags Shorthand) t.start e.last.stop (part m none)) s.last e.last []
      of {o} ImportSpecifier free listed = import_alone s.text here (subst (λ n. SpellsIn s.text o name n s.last e.last []) (sym one) (bound s.text t here (free refl)))
      of {o} ExportSpecifier free listed = subst (λ n. SpellsIn s.text o specifier (node ExportSpecifier [] (form_flags Shorthand) t.start e.last.stop (part n none)) s.last e.last []) (sym one) (export_alone s.text t here names)
      of _ free listed = absurd (false≢true listed)

  -- two
  pub renamed_derived : (m l : Tree) (b : CursorState) → m ≡ single_node (name_kind t.class) t → ReadsHere s.text IdentifierName (codes "as") k b.last → b.text ≡ s.text → SecondAt kind b e l → Makes (node kind [] plain t.start e.last.stop (part m (part l none))) high result → IfOk result (SpecifierAt kind s e)
  renamed_derived m l b one word same second made = made_ok (node kind [] plain t.start e.last.stop (part m (part l none))) high result (SpecifierAt kind s e) made (λ listed. (refl, λ o. subst (λ n. SpellsIn s.text o specifier (node kind [] plain t.start e.last.stop (part n (part l none))) s.last e.last []) (sym one) (of kind listed (subst (λ x. SecondAt kind (record b { text = x }) e l) same second))))
    where
      of : {o : ℕ} (K : Kind) → is_listed K ≡ true → SecondAt K (record b { text = s.text }) e l → SpellsIn s.text o specifier (node K [] plain t.start e.last.stop (part (single_node (name_kind t.class) t) (part l none))) s.last e.last []
      of {o} ImportSpecifier listed second = import_renamed s.text t read names word (second o)
      of {o} ExportSpecifier listed second = export_renamed s.text t read names word (second o)
      of _ listed second = absurd (false≢true listed)
