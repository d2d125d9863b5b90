-- The names in `\p{..}` (ECMA-262, 13th edition, 22.2.1: UnicodePropertyValueExpression; tables 66 to 69): lists of words, with a space between two.
use Rattle.std.specs.Prelude.{ℕ, Bool, false, not, ◌&&◌, ◌||◌, ◌==◌, List, [], ◌∷◌, length, drop, take_while, nat_le, Option, Some, None, codes, if◌then◌else◌}
use Prim.Native.String.{String}
use Rattle.tokens.specs.Alphabet.{one_of, is_empty, is_decimal_digit}

-- the binary properties and their aliases (table 67)
abbrev pub binary_properties : String
binary_properties = "ASCII ASCII_Hex_Digit AHex Alphabetic Alpha Any Assigned Bidi_Control Bidi_C Bidi_Mirrored Bidi_M Case_Ignorable CI Cased Changes_When_Casefolded CWCF Changes_When_Casemapped CWCM Changes_When_Lowercased CWL Changes_When_NFKC_Casefolded CWKCF Changes_When_Titlecased CWT Changes_When_Uppercased CWU Dash Default_Ignorable_Code_Point DI Deprecated Dep Diacritic Dia Emoji Emoji_Component EComp Emoji_Modifier EMod Emoji_Modifier_Base EBase Emoji_Presentation EPres Extended_Pictographic ExtPict Extender Ext Grapheme_Base Gr_Base Grapheme_Extend Gr_Ext Hex_Digit Hex IDS_Binary_Operator IDSB IDS_Trinary_Operator IDST ID_Continue IDC ID_Start IDS Ideographic Ideo Join_Control Join_C Logical_Order_Exception LOE Lowercase Lower Math Noncharacter_Code_Point NChar Pattern_Syntax Pat_Syn Pattern_White_Space Pat_WS Quotation_Mark QMark Radical Regional_Indicator RI Sentence_Terminal STerm Soft_Dotted SD Terminal_Punctuation Term Unified_Ideograph UIdeo Uppercase Upper Variation_Selector VS White_Space space XID_Continue XIDC XID_Start XIDS"

-- the values of General_Category (table 68)
abbrev pub categories : String
categories = "Cased_Letter LC Close_Punctuation Pe Connector_Punctuation Pc Control Cc cntrl Currency_Symbol Sc Dash_Punctuation Pd Decimal_Number Nd digit Enclosing_Mark Me Final_Punctuation Pf Format Cf Initial_Punctuation Pi Letter L Letter_Number Nl Line_Separator Zl Lowercase_Letter Ll Mark M Combining_Mark Math_Symbol Sm Modifier_Letter Lm Modifier_Symbol Sk Nonspacing_Mark Mn Number N Open_Punctuation Ps Other C Other_Letter Lo Other_Number No Other_Punctuation Po Other_Symbol So Paragraph_Separator Zp Private_Use Co Punctuation P punct Separator Z Space_Separator Zs Spacing_Mark Mc Surrogate Cs Symbol S Titlecase_Letter Lt Unassigned Cn Uppercase_Letter Lu"

-- The values of Script and Script_Extensions (table 69; PropertyValueAliases.txt of Unicode 17, but Unknown and Katakana_Or_Hiragana, which no
-- character has).
abbrev pub scripts : String
scripts = "Adlam Adlm Ahom Anatolian_Hieroglyphs Hluw Arabic Arab Armenian Armn Avestan Avst Balinese Bali Bamum Bamu Bassa_Vah Bass Batak Batk Bengali Beng Bhaiksuki Bhks Bopomofo Bopo Brahmi Brah Braille Brai Buginese Bugi Buhid Buhd Canadian_Aboriginal Cans Carian Cari Caucasian_Albanian Aghb Chakma Cakm Cham Cherokee Cher Chorasmian Chrs Common Zyyy Coptic Copt Qaac Cuneiform Xsux Cypriot Cprt Cypro_Minoan Cpmn Cyrillic Cyrl Deseret Dsrt Devanagari Deva Dives_Akuru Diak Dogra Dogr Duployan Dupl Egyptian_Hieroglyphs Egyp Elbasan Elba Elymaic Elym Ethiopic Ethi Georgian Geor Glagolitic Glag Gothic Goth Grantha Gran Greek Grek Gujarati Gujr Gunjala_Gondi Gong Gurmukhi Guru Han Hani Hangul Hang Hanifi_Rohingya Rohg Hanunoo Hano Hatran Hatr Hebrew Hebr Hiragana Hira Imperial_Aramaic Armi Inherited Zinh Qaai Inscriptional_Pahlavi Phli Inscriptional_Parthian Prti Javanese Java"

abbrev pub more_scripts : String
more_scripts = "Kaithi Kthi Kannada Knda Katakana Kana Kayah_Li Kali Kharoshthi Khar Khitan_Small_Script Kits Khmer Khmr Khojki Khoj Khudawadi Sind Lao Laoo Latin Latn Lepcha Lepc Limbu Limb Linear_A Lina Linear_B Linb Lisu Lycian Lyci Lydian Lydi Mahajani Mahj Makasar Maka Malayalam Mlym Mandaic Mand Manichaean Mani Marchen Marc Masaram_Gondi Gonm Medefaidrin Medf Meetei_Mayek Mtei Mende_Kikakui Mend Meroitic_Cursive Merc Meroitic_Hieroglyphs Mero Miao Plrd Modi Mongolian Mong Mro Mroo Multani Mult Myanmar Mymr Nabataean Nbat Nandinagari Nand New_Tai_Lue Talu Newa Nko Nkoo Nushu Nshu Nyiakeng_Puachue_Hmong Hmnp Ogham Ogam Ol_Chiki Olck Old_Hungarian Hung Old_Italic Ital Old_North_Arabian Narb Old_Permic Perm Old_Persian Xpeo Old_Sogdian Sogo Old_South_Arabian Sarb Old_Turkic Orkh Old_Uyghur Ougr Oriya Orya Osage Osge Osmanya Osma"

abbrev pub last_scripts : String
last_scripts = "Pahawh_Hmong Hmng Palmyrene Palm Pau_Cin_Hau Pauc Phags_Pa Phag Phoenician Phnx Psalter_Pahlavi Phlp Rejang Rjng Runic Runr Samaritan Samr Saurashtra Saur Sharada Shrd Shavian Shaw Siddham Sidd SignWriting Sgnw Sinhala Sinh Sogdian Sogd Sora_Sompeng Sora Soyombo Soyo Sundanese Sund Syloti_Nagri Sylo Syriac Syrc Tagalog Tglg Tagbanwa Tagb Tai_Le Tale Tai_Tham Lana Tai_Viet Tavt Takri Takr Tamil Taml Tangsa Tnsa Tangut Tang Telugu Telu Thaana Thaa Thai Tibetan Tibt Tifinagh Tfng Tirhuta Tirh Toto Ugaritic Ugar Vai Vaii Vithkuqi Vith Wancho Wcho Warang_Citi Wara Yezidi Yezi Yi Yiii Zanabazar_Square Zanb Kawi Nag_Mundari Nagm Garay Gara Gurung_Khema Gukh Kirat_Rai Krai Ol_Onal Onao Sunuwar Sunu Todhri Todr Tulu_Tigalari Tutg Beria_Erfe Berf Sidetic Sidt Tai_Yo Tayo Tolong_Siki Tols"

-- what is left of a word behind one more character; none behind another one
abbrev pub behind_letter : ℕ → Option (List ℕ) → Option (List ℕ)
behind_letter c None = None
behind_letter c (Some []) = None
behind_letter c (Some (d ∷ ds)) = if c == d then Some ds else None

abbrev pub is_met : Option (List ℕ) → Bool
is_met None = false
is_met (Some cs) = is_empty cs

-- Whether a list's words, from inside one on, have this word: what the word there has still to meet is given.
abbrev pub lists_behind : List ℕ → Option (List ℕ) → List ℕ → Bool
lists_behind word left [] = is_met left
lists_behind word left (c ∷ cs) =
    if one_of " " c then is_met left || lists_behind word (Some word) cs else lists_behind word (behind_letter c left) cs

unfoldable pub listed : List ℕ → List ℕ → Bool
listed words word = lists_behind word (Some word) words

abbrev pub lists : String → List ℕ → Bool
lists words word = listed (codes words) word

abbrev pub is_script : List ℕ → Bool
is_script word = lists scripts word || lists more_scripts word || lists last_scripts word

-- ControlLetter
abbrev pub is_letter : ℕ → Bool
is_letter c = (nat_le 0x61 c && nat_le c 0x7A) || (nat_le 0x41 c && nat_le c 0x5A)

-- UnicodePropertyNameCharacter, UnicodePropertyValueCharacter, and the `=` between name and value
abbrev pub is_property_character : ℕ → Bool
is_property_character c = is_letter c || is_decimal_digit c || one_of "_=" c

-- LoneUnicodePropertyNameOrValue
abbrev pub is_lone_property : List ℕ → Bool
is_lone_property word = lists binary_properties word || lists categories word

-- UnicodePropertyName `=` UnicodePropertyValue
abbrev pub is_property_value : List ℕ → List ℕ → Bool
is_property_value name value =
    if lists "General_Category gc" name then lists categories value else lists "Script sc Script_Extensions scx" name && is_script value

-- what stands before the first `=`
abbrev pub property_name : List ℕ → List ℕ
property_name word = take_while (λ c. not (one_of "=" c)) word

-- UnicodePropertyValueExpression, by its name and what follows that
abbrev pub is_property_of : List ℕ → List ℕ → Bool
is_property_of name [] = is_lone_property name
is_property_of name (c ∷ cs) = is_property_value name cs

abbrev pub is_property : List ℕ → Bool
is_property word = is_property_of (property_name word) (drop (length (property_name word)) word)
