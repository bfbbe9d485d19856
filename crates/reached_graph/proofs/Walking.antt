-- How far the walks have come, step by step.
use Rattle.std.proofs.Common.{◌≡◌, ◌≢◌, ℕ, ◌+◌, ◌<◌, Bool, List, [], ◌∷◌, ◌++◌, length, get_or, take, Some, refl, sym, ap, ◌∙◌, subst, inl, inr}
use Rattle.std.specs.Prelude.{Contains}
use Rattle.std.proofs.lemmas.List.{take_more}
use Rattle.std.proofs.lemmas.List.Elements.{Contains-push_cases}
use Rattle.cfg_model.specs.Program.Instructions.{InstructionMap, IsLawful}
use Rattle.cfg_model.specs.Program.Chain.{EndsChain, GoesOnTo, IsTerminator}
use Rattle.cfg_model.specs.declared.flow.Flow.{Flow}
use Rattle.cfg_model.specs.declared.flow.Flow.TheVariants.{Straight, Branch, Jump, Call, IndirectCall, Table, Return, Unknown, Stop}
use Rattle.cfg_model.specs.Program.Reach.{Reached}
use Rattle.cfg_model.specs.Graph.Leader.{IsLeader}
use Rattle.cfg_model.proofs.Program.Along.{next_is_successor}
use Rattle.cfg_model.proofs.Program.ChainFacts.{one_next}
use Rattle.cfg_model.proofs.Program.ChainEnds.{goes_not_ends}
use Rattle.cfg_model.proofs.Graphs.LeaderFacts.{joined}
use Rattle.reached_graph.specs.declared.walks.Walks.{Walks}
use Rattle.numbered.specs.Numbering.{IsMarked}
use Rattle.reached_graph.specs.Inner.Marks.{IsAdded}
use Rattle.reached_graph.proofs.Joining.{begun_joined}
use Rattle.reached_graph.specs.Inner.Walks.{AreFit, AreJoined, AreWalked, HaveWalked, At, IsBegun, IsFresh, IsStopped, IsWalkFrom, IsWalkOn, Nowhere}

module _ (map : InstructionMap) (seeds : List ℕ) (IsGiven IsWalked IsStart : ℕ → Type 0) where
  abbrev Was : (ℕ → Type 0) → Type 0
  Was = AreWalked map seeds IsGiven IsWalked IsStart

  -- a walk begins
  pub walk_begins : (Now : ℕ → Type 0) (s : ℕ) → ¬ IsWalked s → IsAdded IsWalked Now s → IsGiven s → Was Nowhere → AreWalked map seeds IsGiven Now IsStart (At s)
  walk_begins Now s off added there old = record {
    reached = λ a walked. elim (added.only a walked) [
      | inl e ↦ subst (Reached map seeds) (sym e) (old.leads s (old.given s there)).reached
      | inr before ↦ old.reached a before
    ];
    leads = old.leads;
    given = old.given;
    begun = λ a starts. elim (old.begun a starts) [
      | inl walked ↦ inl (added.kept a walked)
      | inr c ↦ inr c
    ];
    came = λ a walked. elim (added.only a walked) [
      | inl e ↦ inl (subst IsStart (sym e) (old.given s there))
      | inr before ↦ elim (old.came a before) [
        | inl starts ↦ inl starts
        | inr from ↦ inr (from.0, added.kept from.0 from.1, (λ e. off (subst IsWalked e from.1)), from.3)
      ]
    ];
    onward = λ a next walked goes. elim (added.only a walked) [
      | inl e ↦ inl e
      | inr before ↦ elim (old.onward a next before goes) [
        | inl none ↦ absurd none
        | inr more ↦ inr (elim more [ inl on ↦ inl (added.kept next on) | inr starts ↦ inr starts ])
      ]
    ];
    joined = λ a b next walked too apart goes goes_too. elim (added.only a walked) [
      | inl e ↦ inl e
      | inr before ↦ elim (added.only b too) [
        | inl e ↦ inr (inl e)
        | inr also ↦ elim (old.joined a b next before also apart goes goes_too) [
          | inl none ↦ absurd none
          | inr more ↦ elim more [ inl none ↦ absurd none | inr starts ↦ inr (inr starts) ]
        ]
      ]
    ];
  }

  -- nothing comes after a terminator
  pub walk_ends : (here : ℕ) → IsTerminator map here → Was (At here) → Was Nowhere
  walk_ends here ends old = record {
    reached = old.reached;
    leads = old.leads;
    given = old.given;
    begun = old.begun;
    came = λ a walked. elim (old.came a walked) [
      | inl starts ↦ inl starts
      | inr from ↦ inr (from.0, from.1, (λ none. none), from.3)
    ];
    onward = λ a next walked goes. elim (old.onward a next walked goes) [
      | inl e ↦ absurd (goes_not_ends map a next goes (subst (IsTerminator map) (sym e) ends))
      | inr more ↦ inr more
    ];
    joined = λ a b next walked too apart goes goes_too. elim (old.joined a b next walked too apart goes goes_too) [
      | inl e ↦ absurd (goes_not_ends map a next goes (subst (IsTerminator map) (sym e) ends))
      | inr more ↦ elim more [
        | inl e ↦ absurd (goes_not_ends map b next goes_too (subst (IsTerminator map) (sym e) ends))
        | inr starts ↦ inr (inr starts)
      ]
    ];
  }

  module _ (here next : ℕ) (goes_on : GoesOnTo map here next) (old : Was (At here)) where
    same_next : (a other : ℕ) → a ≡ here → GoesOnTo map a other → other ≡ next
    same_next a other e goes = one_next map here other next (subst (λ z. GoesOnTo map z other) e goes) goes_on

    -- the walk comes to a start
    pub walk_stops : IsStart next → Was Nowhere
    walk_stops starts = record {
      reached = old.reached;
      leads = old.leads;
      given = old.given;
      begun = old.begun;
      came = λ a walked. elim (old.came a walked) [
        | inl st ↦ inl st
        | inr from ↦ inr (from.0, from.1, (λ none. none), from.3)
      ];
      onward = λ a other walked goes. elim (old.onward a other walked goes) [
        | inl e ↦ inr (inr (subst IsStart (sym (same_next a other e goes)) starts))
        | inr more ↦ inr more
      ];
      joined = λ a b other walked too apart goes goes_too. elim (old.joined a b other walked too apart goes goes_too) [
        | inl e ↦ inr (inr (subst IsStart (sym (same_next a other e goes)) starts))
        | inr more ↦ elim more [
          | inl e ↦ inr (inr (subst IsStart (sym (same_next b other e goes_too)) starts))
          | inr st ↦ inr (inr st)
        ]
      ];
    }

    module _ (walked_here : IsWalked here) (no_start : ¬ IsStart next) where
      -- it comes to where no walk was
      module _ (Now : ℕ → Type 0) (lawful : IsLawful map) (off : ¬ IsWalked next) (added : IsAdded IsWalked Now next) where
        apart_next : (a : ℕ) → IsWalked a → a ≢ next
        apart_next a walked e = off (subst IsWalked e walked)

        -- no other address leads there
        alone : (a : ℕ) → IsWalked a → GoesOnTo map a next → a ≡ here
        alone a walked goes = elim (old.onward a next walked goes) [
          | inl e ↦ e
          | inr more ↦ elim more [ inl on ↦ absurd (off on) | inr st ↦ absurd (no_start st) ]
        ]

        pub walk_goes : AreWalked map seeds IsGiven Now IsStart (At next)
        walk_goes = record {
          reached = λ a walked. elim (added.only a walked) [
            | inl e ↦ subst (Reached map seeds) (sym e) (Reached.onward (old.reached here walked_here) (next_is_successor map here next goes_on))
            | inr before ↦ old.reached a before
          ];
          leads = old.leads;
          given = old.given;
          begun = λ a starts. elim (old.begun a starts) [
            | inl walked ↦ inl (added.kept a walked)
            | inr c ↦ inr c
          ];
          came = λ a walked. elim (added.only a walked) [
            | inl e ↦ inr (here, added.kept here walked_here, apart_next here walked_here, subst (GoesOnTo map here) (sym e) goes_on)
            | inr before ↦ elim (old.came a before) [
              | inl starts ↦ inl starts
              | inr from ↦ inr (from.0, added.kept from.0 from.1, apart_next from.0 from.1, from.3)
            ]
          ];
          onward = λ a other walked goes. elim (added.only a walked) [
            | inl e ↦ inl e
            | inr before ↦ elim (old.onward a other before goes) [
              | inl e ↦ inr (inl (subst Now (sym (same_next a other e goes)) added.here))
              | inr more ↦ inr (elim more [ inl on ↦ inl (added.kept other on) | inr starts ↦ inr starts ])
            ]
          ];
          joined = λ a b other walked too apart goes goes_too. elim (added.only a walked) [
            | inl e ↦ inl e
            | inr before ↦ elim (added.only b too) [
              | inl e ↦ inr (inl e)
              | inr also ↦ inr (inr (both a b other before also apart goes goes_too))
            ]
          ];
        }
          where
            both : (a b other : ℕ) → IsWalked a → IsWalked b → a ≢ b → GoesOnTo map a other → GoesOnTo map b other → IsStart other
            both a b other walked too apart goes goes_too = elim (old.joined a b other walked too apart goes goes_too) [
              | inl e ↦
                  let same = alone b too (subst (GoesOnTo map b) (same_next a other e goes) goes_too) in
                  absurd (apart (e ∙ sym same))
              | inr more ↦ elim more [
                | inl e ↦
                    let same = alone a walked (subst (GoesOnTo map a) (same_next b other e goes_too) goes) in
                    absurd (apart (same ∙ sym e))
                | inr st ↦ st
              ]
            ]

      -- it comes to where a walk was
      module _ (Now : ℕ → Type 0) (lawful : IsLawful map) (was : IsWalked next) (added : IsAdded IsStart Now next) where
        next_leads : IsLeader map seeds next
        next_leads = elim (old.came next was) [
          | inl st ↦ absurd (no_start st)
          | inr from ↦ joined map seeds lawful from.0 here next (old.reached from.0 from.1) (old.reached here walked_here) from.3 goes_on from.2
        ]

        pub walk_joins : AreWalked map seeds IsGiven IsWalked Now Nowhere
        walk_joins = record {
          reached = old.reached;
          leads = λ a starts. elim (added.only a starts) [
            | inl e ↦ subst (IsLeader map seeds) (sym e) next_leads
            | inr before ↦ old.leads a before
          ];
          given = λ a c. added.kept a (old.given a c);
          begun = λ a starts. elim (added.only a starts) [
            | inl e ↦ inl (subst IsWalked (sym e) was)
            | inr before ↦ old.begun a before
          ];
          came = λ a walked. elim (old.came a walked) [
            | inl st ↦ inl (added.kept a st)
            | inr from ↦ inr (from.0, from.1, (λ none. none), from.3)
          ];
          onward = λ a other walked goes. elim (old.onward a other walked goes) [
            | inl e ↦ inr (inl (subst IsWalked (sym (same_next a other e goes)) was))
            | inr more ↦ inr (elim more [ inl on ↦ inl on | inr st ↦ inr (added.kept other st) ])
          ];
          joined = λ a b other walked too apart goes goes_too. elim (old.joined a b other walked too apart goes goes_too) [
            | inl e ↦ inr (inr (subst Now (sym (same_next a other e goes)) added.here))
            | inr more ↦ elim more [
              | inl e ↦ inr (inr (subst Now (sym (same_next b other e goes_too)) added.here))
              | inr st ↦ inr (inr (added.kept other st))
            ]
          ];
        }

-- the same of the walks

module _ (map : InstructionMap) (number : ℕ → ℕ) (seeds : List ℕ) (marks : List Bool) (old new : Walks) where
  pub walks_begin : (s : ℕ) → IsBegun map number s old new → IsMarked map number marks s → HaveWalked map number seeds marks old Nowhere → HaveWalked map number seeds marks new (At s)
  walks_begin s begun there have =
      rw begun.starts
      (walk_begins map seeds (IsMarked map number marks) (IsMarked map number old.walked.items) (IsMarked map number old.starts.items) (IsMarked map number new.walked.items) s begun.off begun.walked there have)

  module _ (lawful : IsLawful map) (here next : ℕ) (goes : GoesOnTo map here next) (walked : IsMarked map number old.walked.items here) (have : HaveWalked map number seeds marks old (At here)) where
    pub walks_go : IsFresh map number next old new → HaveWalked map number seeds marks new (At next)
    walks_go fresh =
        let begun : IsBegun map number next old new = fresh.begun in
        rw begun.starts
        (walk_goes map seeds (IsMarked map number marks) (IsMarked map number old.walked.items) (IsMarked map number old.starts.items) here next goes have walked fresh.no_start (IsMarked map number new.walked.items) lawful begun.off begun.walked)

    pub walks_stop : IsStopped map number next old new → HaveWalked map number seeds marks new Nowhere
    walks_stop stopped = elim stopped [
      | inl (starts, same) ↦
          subst (λ (w : Walks). HaveWalked map number seeds marks w Nowhere) (sym same)
          (walk_stops map seeds (IsMarked map number marks) (IsMarked map number old.walked.items) (IsMarked map number old.starts.items) here next goes have starts)
      | inr join ↦
          rw join.walked
          (walk_joins map seeds (IsMarked map number marks) (IsMarked map number old.walked.items) (IsMarked map number old.starts.items) here next goes have walked join.no_start (IsMarked map number new.starts.items) lawful join.was_walked join.starts)
    ]

-- what a walk that stops leaves walked over
pub stopped_keeps : (map : InstructionMap) (number : ℕ → ℕ) (next : ℕ) (old new : Walks) → IsStopped map number next old new → new.walked.items ≡ old.walked.items
stopped_keeps map number next old new stopped = elim stopped [
  | inl (starts, same) ↦ ap (λ (w : Walks). w.walked.items) same
  | inr join ↦ ap (λ v. v.items) join.walked
]

module _ (map : InstructionMap) (number : ℕ → ℕ) (s : ℕ) (old new : Walks) where
  -- a walk from where one was before
  pub walk_none : AreFit map number new → IsMarked map number old.walked.items s → new ≡ old → IsWalkFrom map number s old new
  walk_none fit walked same = record {
    fit = fit;
    begun = subst (λ (w : Walks). IsMarked map number w.walked.items s) (sym same) walked;
    kept = λ a on. subst (λ (w : Walks). IsMarked map number w.walked.items a) (sym same) on;
    joined = λ marks are. subst (λ (w : Walks). AreJoined map number marks w) (sym same) are;
    walked = λ seeds marks there have. subst (λ (w : Walks). HaveWalked map number seeds marks w Nowhere) (sym same) have;
  }

  -- one that goes on
  pub walk_from : (mid : Walks) → IsBegun map number s old mid → IsWalkOn map number s mid new → IsWalkFrom map number s old new
  walk_from mid begun on = record {
    fit = on.fit;
    begun = on.kept s begun.walked.here;
    kept = λ a was. on.kept a (begun.walked.kept a was);
    joined = λ marks are. on.joined marks (begun_joined map number marks old mid are s begun);
    walked = λ seeds marks there have. on.walked seeds marks (walks_begin map number seeds marks old mid s begun there have);
  }

  -- the walks from the first of these addresses, and from one more
  pub more_begun : (firsts : List ℕ) (i : ℕ) → i < length firsts → s ≡ get_or firsts i 0 → IsWalkFrom map number s old new
      → ((a : ℕ) → Contains (take i firsts) a → IsMarked map number old.walked.items a) → (a : ℕ) → Contains (take (i + 1) firsts) a → IsMarked map number new.walked.items a
  more_begun firsts i within is from before a c =
      elim (Contains-push_cases (take i firsts) s a (subst (λ xs. Contains xs a) (take_more firsts i 0 within ∙ ap (λ y. take i firsts ++ y ∷ []) (sym is)) c)) [
        | inl was ↦ from.kept a (before a was)
        | inr e ↦ subst (IsMarked map number new.walked.items) e from.begun
      ]

-- a flow that is not straight ends a chain
pub ends_by : (flow : Flow) → ((next : ℕ) → flow ≡ Straight next → ⊥) → EndsChain (Some flow)
ends_by (Straight next) none = none next refl
ends_by (Branch taken fall) none = tt
ends_by (Jump target) none = tt
ends_by (Call target fall) none = tt
ends_by (IndirectCall fall) none = tt
ends_by (Table entries full is_open) none = tt
ends_by Return none = tt
ends_by Unknown none = tt
ends_by Stop none = tt
