-- Line breaks before what is read.
use Rattle.std.proofs.Common.{◌≡◌, Bool, ◌∙◌}
use Rattle.tokens.specs.declared.token.Goal.{Goal}
use Rattle.tokens.specs.Tokens.{LexicalToken}
use Rattle.language.specs.Token.{Token}
use Rattle.language.specs.Promises.{ReadBy}
use Rattle.token_cursor.specs.SourceText.{SourceText, SeenNext, behind_in}
use Rattle.token_cursor.specs.CursorState.{IsAhead}
use Rattle.token_cursor.proofs.TokensAhead.{break_seen}

pub all_broken : (text : SourceText) (g : Goal) (s : Token) (u : LexicalToken) → IsAhead g text s.stop u → (b : Bool) → u.after_break ≡ b → (t e : Token) → SeenNext text s t e → t.after_break ≡ b
all_broken text g s u a b h t e n = break_seen text g s u a t e n ∙ h

pub each_broken : (text : SourceText) (g : Goal) (s : Token) (u : LexicalToken) → IsAhead g text s.stop u → (b : Bool) → u.after_break ≡ b → (t e : Token) → ReadBy Token (SeenNext text) (behind_in text) g s t e → t.after_break ≡ b
each_broken text g s u a b h t e r = break_seen text g s u a t e r.next ∙ h
