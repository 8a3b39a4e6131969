-- The job of a command with its options, and why there is none.
use Rattle.std.proofs.Common.{◌≡◌, List, [], ◌∷◌, Result, Ok, Err, true, false, refl, ap, sym, subst, ◌∙◌, codes, ◌≢◌, length, map, arith, inl, inr}
use Rattle.std.specs.Prelude.{IsErrAnd, IfOk, ◌⊎◌}
use Rattle.command_words.specs.declared.fault.WordsFault.{WordsFault}
use Rattle.command_words.specs.declared.fault.WordsFault.TheVariants.{Usage, NoMemory}
use Rattle.command_words.specs.declared.help.Command.{Command}
use Rattle.command_words.specs.declared.job.Job.{Job}
use Rattle.command_words.specs.declared.job.Job.TheVariants.{Replay, History, Check, Decode, Make, Live}
use Rattle.command_words.specs.Options.{Text, given, are_options}
use Rattle.command_words.specs.Asks.{Asks, IsInRange, mtu, ticks, lanes, turns}
use Rattle.command_words.specs.Answers.{Refuses, FindsAsked, OptionsOf, HasOptions, IsJobOf, command_of, options_of, name_of_command, option_names}
use Rattle.command_words.proofs.Digits.{number_within}
use Rattle.command_words.proofs.Parts.{names_within}
use Rattle.command_words.proofs.OneJob.{splits, joins, same_command, first_text, rest_texts, one_job}

-- where one thing that is needed is not found, nothing is
pub lacks : {O P : Type 0} (Has : O → Type 0) (Needs : P → Type 0) (e : WordsFault) → Refuses Needs e
    → ((o : O) → Has o → (p : P) × Needs p) → Refuses Has e
lacks Has Needs NoMemory r needs = tt
lacks Has Needs Usage r needs = λ o has. r (needs o has).0 (needs o has).1

-- a job of a command has options of it
found_for : (k : Command) (words : List Text) (job : Job) → IsJobOf k words job → (o : OptionsOf k) × HasOptions k words o
found_for k words job h = subst (λ c. (o : OptionsOf c) × HasOptions c words o) (sym h.0) (options_of job, h.1)

-- an error that is passed on by `?`
pub passed_on : {O : Type 0} (Has : O → Type 0) (r : Result O WordsFault) (e : WordsFault) → IsErrAnd r (λ y. y ≡ e) → Refuses Has e → FindsAsked Has r
passed_on Has (Ok x) e h q = absurd h
passed_on Has (Err y) e h q = subst (Refuses Has) (sym h) q

-- where the words have no options of the command, they have no job of it
pub no_job : (k c : Command) (words : List Text) (r : Result Job WordsFault) (e : WordsFault) → k ≡ c → IsErrAnd r (λ y. y ≡ e)
    → Refuses (HasOptions c words) e → FindsAsked (IsJobOf k words) r
no_job k c words r e is h none =
    passed_on (IsJobOf k words) r e h
    (subst (λ d. Refuses (IsJobOf d words) e) (sym is) (lacks (IsJobOf c words) (HasOptions c words) e none (found_for c words)))

-- the words of a command are its name and options of it
pub job_asked : (k : Command) (options : List Text) (r : Result Job WordsFault) → are_options (option_names k) options ≡ true
    → FindsAsked (IsJobOf k options) r → FindsAsked (Asks (name_of_command k ∷ options)) r
job_asked k options (Ok job) formed is =
    subst (λ d. Asks (name_of_command d ∷ options) job) (sym is.0)
    (joins (name_of_command (command_of job) ∷ options) job (record {
      rest = options;
      is = record { whole = refl; formed = subst (λ d. are_options (option_names d) options ≡ true) is.0 formed };
      has = is.1;
    }))
job_asked k options (Err NoMemory) formed none = tt
job_asked k options (Err Usage) formed none =
    λ job a. let s = splits (name_of_command k ∷ options) job a in
    let same = same_command k (command_of job) (first_text _ _ _ _ s.is.whole) in
    none job (same, subst (λ l. HasOptions (command_of job) l (options_of job)) (sym (rest_texts _ _ _ _ s.is.whole)) s.has)

pub unformed : (k : Command) (options : List Text) → are_options (option_names k) options ≡ false → (job : Job) → Asks (name_of_command k ∷ options) job → ⊥
unformed k options is job a =
    let s = splits (name_of_command k ∷ options) job a in
    let same = same_command k (command_of job) (first_text _ _ _ _ s.is.whole) in
    let formed = subst (λ l. are_options (option_names (command_of job)) l ≡ true) (sym (rest_texts _ _ _ _ s.is.whole)) s.is.formed in
    let bad : true ≡ false = sym (subst (λ d. are_options (option_names d) options ≡ true) (sym same) formed) ∙ is in
    cc

-- no words begin with a name that is none
pub no_command : (name : Text) (options : List Text) → ((c : Command) → name ≢ name_of_command c) → (job : Job) → Asks (name ∷ options) job → ⊥
no_command name options none job a =
    let s = splits (name ∷ options) job a in
    none (command_of job) (first_text _ _ _ _ s.is.whole)

no_words : (job : Job) → Asks [] job → ⊥
no_words job a =
    let s = splits [] job a in
    let bad : [] ≡ (name_of_command (command_of job) ∷ s.rest) = s.is.whole in
    cc

pub none_asked : {X : Type 0} (f : X → Text) (ws : List X) → length ws ≡ 0 → (job : Job) → Asks (map f ws) job → ⊥
none_asked f [] e = no_words
none_asked f (w ∷ ws) e = absurd (omega arith)

in_range : (words : List Text) (job : Job) → Asks words job → IsInRange job
in_range words (Replay o) a = number_within mtu (given a.0 (codes "mtu")) o.mtu refl refl a.2.mtu
in_range words History a = tt
in_range words (Check o) a = tt
in_range words (Decode o) a = tt
in_range words (Make o) a =
    let few = number_within ticks (given a.0 (codes "ticks")) o.ticks refl refl a.2.ticks in
    let some = number_within lanes (given a.0 (codes "lanes")) o.lanes refl refl a.2.lanes in
    (few.1, some.0, some.1)
in_range words (Live o) a =
    let lanes = names_within (given a.0 (codes "lanes")) o.lanes a.2.lanes in
    let octets = number_within mtu (given a.0 (codes "mtu")) o.packets.mtu refl refl a.2.packets.mtu in
    let most = number_within turns (given a.0 (codes "turns")) o.turns refl refl a.2.turns in
    (lanes.0, lanes.1, octets.0, octets.1, most.0, most.1)

-- what `read_words` promises, by what it answers
pub ok_asks : (words : List Text) (r : Result Job WordsFault) → FindsAsked (Asks words) r → IfOk r (λ job. Asks words job)
ok_asks words (Ok job) a = a
ok_asks words (Err e) a = tt

pub ok_ranges : (words : List Text) (r : Result Job WordsFault) → FindsAsked (Asks words) r → IfOk r IsInRange
ok_ranges words (Ok job) a = in_range words job a
ok_ranges words (Err e) a = tt

pub usage_asks_none : (words : List Text) (r : Result Job WordsFault) → FindsAsked (Asks words) r → (job : Job) → Asks words job → r ≡ Err Usage → ⊥
usage_asks_none words r a job asked is = subst (FindsAsked (Asks words)) is a job asked

pub accepted_job : (words : List Text) (r : Result Job WordsFault) → FindsAsked (Asks words) r → (job : Job) → Asks words job
    → (r ≡ Ok job) ⊎ (r ≡ Err NoMemory)
accepted_job words (Ok j) a job asked = inl (ap Ok (one_job words j job a asked))
accepted_job words (Err Usage) a job asked = absurd (a job asked)
accepted_job words (Err NoMemory) a job asked = inr refl

pub refused_words : (words : List Text) (r : Result Job WordsFault) → FindsAsked (Asks words) r → ((job : Job) → Asks words job → ⊥)
    → (r ≡ Err Usage) ⊎ (r ≡ Err NoMemory)
refused_words words (Ok j) a none = absurd (none j a)
refused_words words (Err Usage) a none = inl refl
refused_words words (Err NoMemory) a none = inr refl
