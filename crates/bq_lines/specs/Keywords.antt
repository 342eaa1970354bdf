-- The words that the lines of a trace begin with (this project's own trace format).
use Rattle.std.specs.Prelude.{ℕ, List, Option, Some, None, if◌then◌else◌, codes}
use Rattle.std.specs.Str.{bytes_eq}
use Rattle.bq_parts.specs.declared.event.Event.{Event}
use Rattle.bq_parts.specs.declared.event.Event.TheVariants as events
use Rattle.bq_lines.specs.declared.keyword.Keyword.{Keyword}
use Rattle.bq_lines.specs.declared.keyword.Keyword.TheVariants as keywords

-- the word of a keyword
abbrev pub keyword_word : Keyword → List ℕ
keyword_word keywords.Install = codes "install"
keyword_word keywords.Machine = codes "machine"
keyword_word keywords.Admit = codes "admit"
keyword_word keywords.Retire = codes "retire"
keyword_word keywords.Draw = codes "draw"
keyword_word keywords.Begin = codes "begin"
keyword_word keywords.End = codes "end"
keyword_word keywords.Wake = codes "wake"
keyword_word keywords.Drain = codes "drain"
keyword_word keywords.Tick = codes "tick"
keyword_word keywords.Block = codes "block"
keyword_word keywords.Pull = codes "pull"
keyword_word keywords.Show = codes "show"
keyword_word keywords.Counter = codes "counter"

-- the keyword that a word is, if it is one of those that few lines have
abbrev pub setting_keyword_of : List ℕ → Option Keyword
setting_keyword_of word =
    if bytes_eq word (keyword_word keywords.Install) then Some keywords.Install
    else if bytes_eq word (keyword_word keywords.Machine) then Some keywords.Machine
    else if bytes_eq word (keyword_word keywords.Admit) then Some keywords.Admit
    else if bytes_eq word (keyword_word keywords.Retire) then Some keywords.Retire
    else if bytes_eq word (keyword_word keywords.Draw) then Some keywords.Draw
    else if bytes_eq word (keyword_word keywords.Show) then Some keywords.Show
    else if bytes_eq word (keyword_word keywords.Counter) then Some keywords.Counter
    else None

-- the keyword that a word is, if it is one
abbrev pub keyword_of : List ℕ → Option Keyword
keyword_of word =
    if bytes_eq word (keyword_word keywords.Begin) then Some keywords.Begin
    else if bytes_eq word (keyword_word keywords.End) then Some keywords.End
    else if bytes_eq word (keyword_word keywords.Wake) then Some keywords.Wake
    else if bytes_eq word (keyword_word keywords.Drain) then Some keywords.Drain
    else if bytes_eq word (keyword_word keywords.Tick) then Some keywords.Tick
    else if bytes_eq word (keyword_word keywords.Block) then Some keywords.Block
    else if bytes_eq word (keyword_word keywords.Pull) then Some keywords.Pull
    else setting_keyword_of word

-- the keyword of a line that asks for an event
abbrev pub keyword_of_event : Event → Keyword
keyword_of_event (events.Admit task nice mask slice) = keywords.Admit
keyword_of_event (events.Retire task) = keywords.Retire
keyword_of_event events.Draw = keywords.Draw
keyword_of_event (events.Install c hook generation policy) = keywords.Install
keyword_of_event (events.BeginWake c task) = keywords.Begin
keyword_of_event (events.EndWake c now) = keywords.End
keyword_of_event (events.Drain c now) = keywords.Drain
keyword_of_event (events.Tick c now) = keywords.Tick
keyword_of_event (events.Block c now) = keywords.Block
keyword_of_event (events.Pull c from now) = keywords.Pull
