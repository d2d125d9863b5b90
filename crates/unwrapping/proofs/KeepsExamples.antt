-- Comments of gaps, and tokens that are kept or aren't.
use Rattle.std.proofs.Common.{◌≡◌, ℕ, true, false, List, [], ◌∷◌, ◌++◌, refl}
use Prim.Native.String.{String}
use Rattle.std.specs.Prelude.{codes}
use Rattle.tokens.specs.Comments.{nothing, blank, comment}
use Rattle.tokens.specs.declared.token.TokenClass.{TokenClass}
use Rattle.tokens.specs.declared.token.TokenClass.TheVariants.{IdentifierName, Punctuator}
use Rattle.tokens.proofs.Beginnings.{true_false}
use Rattle.tree.specs.declared.kind.Pair.{Pair}
use Rattle.unwrapping.specs.Keeps.{Comment, SpacedToken, comments, AreKept, all, kept, moved_before, moved_after, gone, put, called, ended, IsSameToken}

-- ---- comments

none : comments {gap = codes " "} {rest = codes "a"} (blank refl nothing) ≡ []
none = refl

-- ` /* ( */` before `a`
of_block : comments {gap = codes " /* ( */"} {rest = codes "a"} (blank refl (comment (codes "/* ( */") [] refl refl nothing)) ≡ record { bytes = codes "/* ( */"; has_line_end = false } ∷ []
unfolding lib.Utf8.encode
of_block = refl

-- `/**/// b` and a line feed before `a`: the line feed is no part of the comment
of_both : comments {gap = codes "/**/// b" ++ 0xA ∷ []} {rest = codes "a"} (comment (codes "/**/") (codes "// b" ++ 0xA ∷ []) refl refl (comment (codes "// b") (0xA ∷ []) refl refl (blank refl nothing))) ≡ record { bytes = codes "/**/"; has_line_end = false } ∷ record { bytes = codes "// b"; has_line_end = false } ∷ []
unfolding lib.Utf8.encode
of_both = refl

-- `/*`, a line feed and `*/`
of_broken : comments {gap = codes "/*" ++ 0xA ∷ codes "*/"} {rest = codes "a"} (comment (codes "/*" ++ 0xA ∷ codes "*/") [] refl refl nothing) ≡ record { bytes = codes "/*" ++ 0xA ∷ codes "*/"; has_line_end = true } ∷ []
unfolding lib.Utf8.encode
of_broken = refl

-- ---- tokens

-- a token at a place, with a gap and comments before it
abbrev spaced : TokenClass → String → ℕ → String → List Comment → SpacedToken
spaced class text at gap before = record { token = record { class = class; text = codes text; start = at; stop = 0; after_break = false }; gap = codes gap; comments = before }

abbrev name : String → SpacedToken
name text = spaced IdentifierName text 0 "" []

abbrev sign : String → ℕ → SpacedToken
sign text at = spaced Punctuator text at "" []

abbrev c : Comment
c = record { bytes = codes "/*c*/"; has_line_end = false }

-- `// c`
abbrev d : Comment
d = record { bytes = codes "// c"; has_line_end = false }

abbrev same : {s t : SpacedToken} → s.token.class ≡ t.token.class → s.token.text ≡ t.token.text → IsSameToken s t
same e f = record { class = e; text = f }

-- a pair from 0 to 2
abbrev pairs : List Pair
pairs = record { left = 0; right = 2 } ∷ []

abbrev Kept : List SpacedToken → List SpacedToken → Type 0
Kept ss ts = AreKept pairs [] false true [] [] ss ts

-- `(a)` and `a`
pair_gone : Kept (sign "(" 0 ∷ name "a" ∷ sign ")" 2 ∷ []) (name "a" ∷ [])
pair_gone = gone refl (kept (same refl refl) (λ e. cc) refl (gone refl all))

-- `f()` isn't kept in `f`: its parentheses don't group
call_gone : Kept (name "f" ∷ sign "(" 1 ∷ sign ")" 3 ∷ []) (name "f" ∷ []) → ⊥
call_gone (kept s g e (gone h k)) = true_false _ h refl
call_gone (gone h k) = true_false _ h refl
call_gone (put h k) = true_false _ h refl
call_gone (moved_before s h e k) = true_false _ h refl

-- `a` and `a()`
call_came : Kept (name "a" ∷ []) (name "a" ∷ sign "(" 0 ∷ sign ")" 0 ∷ [])
call_came = kept (same refl refl) (λ e. refl) refl (called refl all)

-- `a` and ` a`: the bytes between tokens stay
blank_came : Kept (name "a" ∷ []) (spaced IdentifierName "a" 0 " " [] ∷ []) → ⊥
blank_came (kept s g e k) = of (g refl)
  where
    of : ◌≡◌ {A = List ℕ} [] (32 ∷ []) → ⊥
    of e = cc
blank_came (gone h k) = true_false _ h refl
blank_came (put h k) = true_false _ h refl
blank_came (moved_before s h e k) = true_false _ h refl

-- `(a) /*c*/;` and `a /*c*/;`
comment_stays : Kept (sign "(" 0 ∷ name "a" ∷ sign ")" 2 ∷ spaced Punctuator ";" 8 " /*c*/" (c ∷ []) ∷ []) (name "a" ∷ spaced Punctuator ";" 7 " /*c*/" (c ∷ []) ∷ [])
comment_stays = gone refl (kept (same refl refl) (λ e. cc) refl (gone refl (kept (same refl refl) (λ e. cc) refl all)))

-- `a /*c*/;` isn't kept in `/*c*/ a;`
comment_moves : Kept (name "a" ∷ spaced Punctuator ";" 7 " /*c*/" (c ∷ []) ∷ []) (spaced IdentifierName "a" 0 "/*c*/ " (c ∷ []) ∷ sign ";" 0 ∷ []) → ⊥
comment_moves (kept s g e k) = of e
  where
    of : ◌≡◌ {A = List Comment} [] (c ∷ []) → ⊥
    of e = cc
comment_moves (gone h k) = true_false _ h refl
comment_moves (put h k) = true_false _ h refl
comment_moves (called h k) = true_false _ h refl
comment_moves (moved_before s h e k) = true_false _ h refl

-- `return(// c` and `a)` on a line of its own; and `// c`, and `return a` on the next line
comment_before : Kept (name "return" ∷ sign "(" 0 ∷ spaced IdentifierName "a" 0 "// c " (d ∷ []) ∷ sign ")" 2 ∷ []) (spaced IdentifierName "return" 0 "// c " (d ∷ []) ∷ spaced IdentifierName "a" 0 " " [] ∷ [])
comment_before = moved_before {moved = d ∷ []} (same refl refl) refl refl (gone refl (kept (same refl refl) (λ e. cc) refl (gone refl all)))

-- `(a // c` and `);` on the next line; and `a; // c`
comment_after : Kept (sign "(" 0 ∷ name "a" ∷ spaced Punctuator ")" 2 " // c " (d ∷ []) ∷ sign ";" 3 ∷ spaced Punctuator "}" 4 " " [] ∷ []) (name "a" ∷ sign ";" 0 ∷ spaced Punctuator "}" 0 " // c " (d ∷ []) ∷ [])
comment_after = gone refl (kept (same refl refl) (λ e. cc) refl (gone refl (moved_after {moved = d ∷ []} (same refl refl) refl refl (kept (same refl refl) (λ e. cc) refl all))))

-- `a++ (b)` and `a++; b`
semicolon_put : Kept (name "a" ∷ sign "++" 1 ∷ sign "(" 0 ∷ name "b" ∷ sign ")" 2 ∷ []) (name "a" ∷ sign "++" 1 ∷ sign ";" 0 ∷ name "b" ∷ [])
semicolon_put = kept (same refl refl) (λ e. refl) refl (kept (same refl refl) (λ e. refl) refl (ended refl (gone refl (kept (same refl refl) (λ e. cc) refl (gone refl all)))))

-- `a;` isn't kept in `a`
semicolon_went : Kept (name "a" ∷ sign ";" 1 ∷ []) (name "a" ∷ []) → ⊥
semicolon_went (kept s g e (gone h k)) = true_false _ h refl
semicolon_went (gone h k) = true_false _ h refl
semicolon_went (put h k) = true_false _ h refl
semicolon_went (moved_before s h e k) = true_false _ h refl

-- nor `a` in `a;`, as no `++` stands before the `;`
semicolon_came : Kept (name "a" ∷ []) (name "a" ∷ sign ";" 1 ∷ []) → ⊥
semicolon_came (kept s g e (put h k)) = true_false _ h refl
semicolon_came (gone h k) = true_false _ h refl
semicolon_came (put h k) = true_false _ h refl
semicolon_came (called h k) = true_false _ h refl
semicolon_came (moved_before s h e k) = true_false _ h refl

-- `return yield (// c` and `a)`: the comment goes before both words
comment_before_words : Kept (name "return" ∷ name "yield" ∷ sign "(" 0 ∷ spaced IdentifierName "a" 0 "// c " (d ∷ []) ∷ sign ")" 2 ∷ []) (spaced IdentifierName "return" 0 "// c " (d ∷ []) ∷ name "yield" ∷ spaced IdentifierName "a" 0 " " [] ∷ [])
comment_before_words = moved_before {moved = d ∷ []} (same refl refl) refl refl (moved_before {moved = d ∷ []} (same refl refl) refl refl (gone refl (kept (same refl refl) (λ e. cc) refl (gone refl all))))

-- `}` and `(from)`, and `};from`
semicolon_before_from : Kept (sign "}" 5 ∷ sign "(" 0 ∷ name "from" ∷ sign ")" 2 ∷ []) (sign "}" 5 ∷ sign ";" 6 ∷ name "from" ∷ [])
semicolon_before_from = kept (same refl refl) (λ e. refl) refl (ended refl (gone refl (kept (same refl refl) (λ e. cc) refl (gone refl all))))

-- but none before another word
semicolon_before_name : Kept (sign "}" 5 ∷ name "a" ∷ []) (sign "}" 5 ∷ sign ";" 6 ∷ name "a" ∷ []) → ⊥
semicolon_before_name (kept s g e (kept t h f k)) = other (t.class)
  where
    other : IdentifierName ≡ Punctuator → ⊥
    other h = cc
semicolon_before_name (kept s g e (gone h k)) = true_false _ h refl
semicolon_before_name (kept s g e (put h k)) = true_false _ h refl
semicolon_before_name (kept s g e (called h k)) = true_false _ h refl
semicolon_before_name (kept s g e (moved_before t h f k)) = true_false _ h refl
semicolon_before_name (gone h k) = true_false _ h refl
semicolon_before_name (put h k) = true_false _ h refl
semicolon_before_name (called h k) = true_false _ h refl
semicolon_before_name (moved_before s h e k) = true_false _ h refl
