use Rattle.std.proofs.Common.{refl, sym}
use Rattle.rt_value.specs.declared.value.Kind.TheVariants.{Opaque}
use Rattle.rt_policy.specs.Types.{type_of, kind_names, opaque_names}
use Rattle.rt_policy.proofs.Names.{IsNoneOf, opaque_behind}
use Rattle.rt_policy.proofs.types.kind_named.Goals as goal

pub returns-in_default : goal.returns-in_default
returns-in_default c =
    let name = c.args.name.now in
    let other = c.in_default in
    let none : IsNoneOf name kind_names = ((
      other.not-smallint,
      (
        other.not-smallserial,
        (
          other.not-int2,
          (
            other.not-integer,
            (
              other.not-int,
              (
                other.not-serial,
                (
                  other.not-int4,
                  (
                    other.not-bigint,
                    (
                      other.not-bigserial,
                      (
                        other.not-int8,
                        (
                          other.not-text,
                          (
                            other.not-varchar,
                            (
                              other.not-boolean,
                              (
                                other.not-bool,
                                (
                                  other.not-uuid,
                                  (
                                    other.not-timestamptz,
                                    (
                                      other.not-json,
                                      (
                                        other.not-jsonb,
                                        tt,
                                      ),
                                    ),
                                  ),
                                ),
                              ),
                            ),
                          ),
                        ),
                      ),
                    ),
                  ),
                ),
              ),
            ),
          ),
        ),
      ),
    )) in
    sym (opaque_behind name kind_names opaque_names (type_of Opaque name) none
    (refl, (refl, (refl, (refl, (refl, (refl, tt)))))) refl)
