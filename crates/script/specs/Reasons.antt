-- Why a line is no call.
--   why_of u    the reason, for people
use Rattle.std.specs.Prelude.{ℕ, List, codes}
use Rattle.script.specs.declared.unreadable.Unreadable.{Unreadable}
use Rattle.script.specs.declared.unreadable.Unreadable.TheVariants.{UnknownVerb, Form, UnknownName, NameTaken, NotKeyed, Memory}
use Rattle.script.specs.Verbs.{usage_of}

abbrev pub why_of : Unreadable → List ℕ
why_of UnknownVerb = codes "no call begins so"
why_of (Form v) = usage_of v
why_of UnknownName = codes "no cipher has the name"
why_of NameTaken = codes "the name is taken"
why_of NotKeyed = codes "a triple takes no key and is no part of another"
why_of Memory = codes "no memory"
