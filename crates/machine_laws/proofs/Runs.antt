-- The laws for every kind of key, value, loader and keep rule, as the contracts state them.
use Rattle.std.proofs.Common.{Bool, map, Result, subst}
use Rattle.loaders.specs.declared.fault.Fault.{Fault}
use Rattle.machine.specs.Machine.{Word, State, step}
use Rattle.machine.specs.Run.{event_of, history, meant}
use Rattle.machine_laws.specs.Laws.{LawfulEvent, ValuesHold, ReplacementHolds, ChancesHold, RunsAreLawful, CallsAreLawful, SmallCachesNeverPromote}
use Rattle.machine_laws.proofs.Steps.{lawful_next, lawful}
use Rattle.machine_laws.proofs.Young.{never_promotes}

module _ {K V L R : Type 0} (meaning : K → Word) (given : L → Word → Result V Fault) (keeps : R → Word → V → Bool) where
  pub values_hold : ValuesHold meaning given keeps
  values_hold c low high loader order past call = (lawful_next c low (given loader) order (map (meant meaning keeps) past) (meant meaning keeps call)).values

  pub replacement_holds : ReplacementHolds meaning given keeps
  replacement_holds c low high loader order past call = (lawful_next c low (given loader) order (map (meant meaning keeps) past) (meant meaning keeps call)).replacement

  pub chances_hold : ChancesHold meaning given keeps
  chances_hold c low high loader order past call = (lawful_next c low (given loader) order (map (meant meaning keeps) past) (meant meaning keeps call)).told

  pub runs_are_lawful : RunsAreLawful meaning given keeps
  runs_are_lawful c low high loader order calls = lawful c low (given loader) order (map (meant meaning keeps) calls)

  pub calls_are_lawful : CallsAreLawful meaning given keeps
  calls_are_lawful c low high loader order past s e call =
      subst
      (λ (t : State V).
      LawfulEvent c (given loader) (history c (given loader) order (map (meant meaning keeps) past)) (event_of t (meant meaning keeps call) (step c (given loader) order t (meant meaning keeps call))))
      e (lawful_next c low (given loader) order (map (meant meaning keeps) past) (meant meaning keeps call))

  pub small_caches_never_promote : SmallCachesNeverPromote meaning given keeps
  small_caches_never_promote c low high loader order past call two nineteen k e =
      never_promotes c low two nineteen (given loader) order (map (meant meaning keeps) past) (meant meaning keeps call) k e
