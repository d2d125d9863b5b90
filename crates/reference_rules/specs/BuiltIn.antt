-- Names that every script has without declaring them (ECMA-262 clause 18). Names are bytes; they stand in six groups, since a
-- chain of all is dear to prove.
use Rattle.std.specs.Prelude.{ℕ, Bool, ◌&&◌, ◌||◌, List, [], ◌∷◌}
use Rattle.language.specs.Vocabulary.{among}

abbrev pub is_value : List ℕ → Bool
is_value text = among text ("globalThis" ∷ "Infinity" ∷ "NaN" ∷ "undefined" ∷ [])

abbrev pub is_global_function : List ℕ → Bool
is_global_function text = among text ("eval" ∷ "isFinite" ∷ "isNaN" ∷ "parseFloat" ∷ "parseInt" ∷ "decodeURI" ∷ "decodeURIComponent" ∷ "encodeURI" ∷ "encodeURIComponent" ∷ [])

abbrev pub is_error : List ℕ → Bool
is_error text = among text ("Error" ∷ "EvalError" ∷ "RangeError" ∷ "ReferenceError" ∷ "SyntaxError" ∷ "TypeError" ∷ "URIError" ∷ [])

abbrev pub is_array : List ℕ → Bool
is_array text = among text ("Array" ∷ "ArrayBuffer" ∷ "BigInt64Array" ∷ "BigUint64Array" ∷ "DataView" ∷ "Float32Array" ∷ "Float64Array" ∷ "Int8Array" ∷ "Int16Array" ∷ "Int32Array" ∷ "SharedArrayBuffer" ∷ "Uint8Array" ∷ "Uint8ClampedArray" ∷ "Uint16Array" ∷ "Uint32Array" ∷ [])

abbrev pub is_other_object : List ℕ → Bool
is_other_object text = among text ("BigInt" ∷ "Boolean" ∷ "Date" ∷ "Function" ∷ "Map" ∷ "Number" ∷ "Object" ∷ "Promise" ∷ "Proxy" ∷ [])

abbrev pub is_further_object : List ℕ → Bool
is_further_object text = among text ("Reflect" ∷ "RegExp" ∷ "Set" ∷ "String" ∷ "Symbol" ∷ "WeakMap" ∷ "WeakSet" ∷ "Atomics" ∷ "JSON" ∷ "Math" ∷ [])

-- what the 12th edition added
abbrev pub is_later_object : List ℕ → Bool
is_later_object text = among text ("AggregateError" ∷ "FinalizationRegistry" ∷ "WeakRef" ∷ [])

unfoldable pub is_built_in : List ℕ → Bool
is_built_in text = is_value text || (is_global_function text || (is_error text || (is_array text || (is_other_object text || is_further_object text))))

-- the names that a script or module of a language has; the flag says whether the language is that of 2022
abbrev pub is_built_in_for : Bool → List ℕ → Bool
is_built_in_for of_2022 text = is_built_in text || (of_2022 && is_later_object text)
