-- Where nothing is asked for a set that is listed, nothing is asked for any list of the same value.
use Rattle.std.proofs.Common.{◌≡◌, ℕ, Bool, true, false, List, Option, Some, None}
use Rattle.command_words.specs.Vocabulary.{Text, IsListed}
use Rattle.adjust_command.specs.Queries.{Query, query_for}

pub no_query : (value : Option Text) (set other : Option (List (List ℕ))) (b c : Bool) (most number : ℕ) (q : Query) → IsListed value set
    → IsListed value other → None ≡ query_for set b c most → query_for other b c number ≡ Some q → ⊥
no_query value (Some names) other true false most number q l k e h = cc e
no_query value (Some names) other false false most number q l k e h = cc e
no_query value (Some names) (Some others) true true most number q l k e h = cc h
no_query value (Some names) (Some others) false true most number q l k e h = cc h
no_query None (Some names) None b true most number q l k e h = l
no_query (Some text) (Some names) None b true most number q l k e h = k
no_query value None other false c most number q l k e h = cc e
no_query value None None true c most number q l k e h = cc h
no_query None None (Some names) true c most number q l k e h = k
no_query (Some text) None (Some names) true c most number q l k e h = l
