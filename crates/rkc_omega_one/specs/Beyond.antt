-- RKC's omega_one for s = 200 + the count: a table of document 02, CR 7, with the doubles of the named build (docs/VECTORS.md). Bit patterns, 16 counts a row,
-- a row's first count above it. A count outside 1 to 800 has the nearest entry.
use Rattle.std.specs.Prelude.{ℕ, min, List, [], ◌∷◌, Float}
use Rattle.table.specs.Rows.{entry}

abbrev pub bits : List (List ℕ)
bits =
    -- 0
    (0x3f13dcad131b8302 ∷ 0x3f13dcad131b8302 ∷ 0x3f13aa74befd6e8f ∷ 0x3f1378f9f361403a ∷
    0x3f134838fb30a158 ∷ 0x3f13182e386ce3d3 ∷ 0x3f12e8d623836271 ∷ 0x3f12ba2d4aa7b177 ∷
    0x3f128c305132d234 ∷ 0x3f125edbef0884ef ∷ 0x3f12322cf0014e65 ∷ 0x3f12062033593ae1 ∷
    0x3f11dab2ab242853 ∷ 0x3f11afe15bc5d82b ∷ 0x3f1185a95b6f2830 ∷ 0x3f115c07d19eb9bc ∷ []) ∷
    -- 16
    (0x3f1132f9f6a6b8e1 ∷ 0x3f110a7d13356ad2 ∷ 0x3f10e28e7fe2b9de ∷ 0x3f10bb2ba4c0925e ∷
    0x3f109451f8ef1f64 ∷ 0x3f106dff02343c50 ∷ 0x3f1048305496a076 ∷ 0x3f1022e391fbc53c ∷
    0x3f0ffc2cd391c510 ∷ 0x3f0fb38d310e402b ∷ 0x3f0f6be3cf14fd84 ∷ 0x3f0f252c59368d4b ∷
    0x3f0edf6293454715 ∷ 0x3f0e9a8258b21104 ∷ 0x3f0e56879befe26d ∷ 0x3f0e136e65da3b02 ∷ []) ∷
    -- 32
    (0x3f0dd132d521d327 ∷ 0x3f0d8fd11dbc84f3 ∷ 0x3f0d4f45885a6319 ∷ 0x3f0d0f8c71ddc304 ∷
    0x3f0cd0a24ad90683 ∷ 0x3f0c9283970ed773 ∷ 0x3f0c552cecf60f6c ∷ 0x3f0c189af542c00b ∷
    0x3f0bdcca6a711fcf ∷ 0x3f0ba1b8185448c9 ∷ 0x3f0b6760dba8de9a ∷ 0x3f0b2dc1a1a9e14e ∷
    0x3f0af4d767a9a478 ∷ 0x3f0abc9f3aac92db ∷ 0x3f0a85163707b231 ∷ 0x3f0a4e3988014a03 ∷ []) ∷
    -- 48
    (0x3f0a18066774e713 ∷ 0x3f09e27a1d796db4 ∷ 0x3f09ad920009a711 ∷ 0x3f09794b72afb156 ∷
    0x3f0945a3e6326e00 ∷ 0x3f091298d844f504 ∷ 0x3f08e027d3393ac1 ∷ 0x3f08ae4e6db3da0d ∷
    0x3f087d0a4a61eace ∷ 0x3f084c5917b1dd5f ∷ 0x3f081c388f8d3896 ∷ 0x3f07eca67714fd11 ∷
    0x3f07bda09e5ef280 ∷ 0x3f078f24e035e5df ∷ 0x3f07613121daa3f1 ∷ 0x3f0733c352c72496 ∷ []) ∷
    -- 64
    (0x3f0706d96c732107 ∷ 0x3f06da71721a1cbb ∷ 0x3f06ae8970838420 ∷ 0x3f06831f7dcb97b3 ∷
    0x3f065831b92de242 ∷ 0x3f062dbe4ad18499 ∷ 0x3f0603c36396519d ∷ 0x3f05da3f3ce3ee13 ∷
    0x3f05b1301878f1ed ∷ 0x3f058894403ce432 ∷ 0x3f05606a0611f358 ∷ 0x3f0538afc3a8b752 ∷
    0x3f051163da55112e ∷ 0x3f04ea84b2e32ea6 ∷ 0x3f04c410bd6f6484 ∷ 0x3f049e06713d03ba ∷ []) ∷
    -- 80
    (0x3f0478644c8f942d ∷ 0x3f045328d484aa4e ∷ 0x3f042e5294eedffe ∷ 0x3f0409e02030b967 ∷
    0x3f03e5d00f1a2d1d ∷ 0x3f03c22100c54f8a ∷ 0x3f039ed19a74efa3 ∷ 0x3f037be08773be98 ∷
    0x3f03594c78f3d82c ∷ 0x3f03371425f025c0 ∷ 0x3f0315364b0cc146 ∷ 0x3f02f3b1aa7a253e ∷
    0x3f02d2850bd74bd3 ∷ 0x3f02b1af3c15a69c ∷ 0x3f02912f0d5d5145 ∷ 0x3f02710356f1d682 ∷ []) ∷
    -- 96
    (0x3f02512af517c979 ∷ 0x3f0231a4c8faddc5 ∷ 0x3f02126fb894fdc7 ∷ 0x3f01f38aae954bec ∷
    0x3f01d4f49a47f8f1 ∷ 0x3f01b6ac6f7f5ace ∷ 0x3f0198b1267c4565 ∷ 0x3f017b01bbd7f99e ∷
    0x3f015d9d306e55c8 ∷ 0x3f01408289480adf ∷ 0x3f0123b0cf85e8ec ∷ 0x3f010727104c8333 ∷
    0x3f00eae45caff0f9 ∷ 0x3f00cee7c9a07ab8 ∷ 0x3f00b3306fd78c69 ∷ 0x3f0097bd6bc4c6f8 ∷ []) ∷
    -- 112
    (0x3f007c8ddd7be8a2 ∷ 0x3f0061a0e8a3258c ∷ 0x3f0046f5b4613b0a ∷ 0x3f002c8b6b4ce830 ∷
    0x3f0012613b5c0c12 ∷ 0x3efff0ecaba64740 ∷ 0x3effbd93de6b3c98 ∷ 0x3eff8ab67e6c56de ∷
    0x3eff5853014ea7ff ∷ 0x3eff2667e2d98477 ∷ 0x3efef4f3a4d98014 ∷ 0x3efec3f4cf02793e ∷
    0x3efe9369eed5c5be ∷ 0x3efe63519784d121 ∷ 0x3efe33aa61d7db64 ∷ 0x3efe0472ec12ddf4 ∷ []) ∷
    -- 128
    (0x3efdd5a9d9dbce84 ∷ 0x3efda74dd4228bcb ∷ 0x3efd795d89071d4f ∷ 0x3efd4bd7abc2d464 ∷
    0x3efd1ebaf48f2a48 ∷ 0x3efcf20620906311 ∷ 0x3efcc5b7f1bdcb2f ∷ 0x3efc99cf2ecc82b6 ∷
    0x3efc6e4aa318d0c0 ∷ 0x3efc43291e92260e ∷ 0x3efc186975a55e95 ∷ 0x3efbee0a8128ce34 ∷
    0x3efbc40b1e48a08a ∷ 0x3efb9a6a2e72f26f ∷ 0x3efb71269744faee ∷ 0x3efb483f4277f282 ∷ []) ∷
    -- 144
    (0x3efb1fb31dcf5125 ∷ 0x3efaf7811b063760 ∷ 0x3efacfa82fbec253 ∷ 0x3efaa827556f8ba3 ∷
    0x3efa80fd8953ed91 ∷ 0x3efa5a29cc5ae5bf ∷ 0x3efa33ab2316dd5d ∷ 0x3efa0d8095adc93a ∷
    0x3ef9e7a92fc99d68 ∷ 0x3ef9c22400893bd8 ∷ 0x3ef99cf01a714ba2 ∷ 0x3ef9780c935d206c ∷
    0x3ef95378847115de ∷ 0x3ef92f330a0c2384 ∷ 0x3ef90b3b43b9ebe4 ∷ 0x3ef8e79054254472 ∷ []) ∷
    -- 160
    (0x3ef8c431610ad014 ∷ 0x3ef8a11d932beee6 ∷ 0x3ef87e5416426fd8 ∷ 0x3ef85bd418f33935 ∷
    0x3ef8399cccc2a8af ∷ 0x3ef817ad6607ebf2 ∷ 0x3ef7f6051be1ecb4 ∷ 0x3ef7d4a3282aef9f ∷
    0x3ef7b386c76d82ad ∷ 0x3ef792af38d95782 ∷ 0x3ef7721bbe387892 ∷ 0x3ef751cb9be40547 ∷
    0x3ef731be18b9f4fa ∷ 0x3ef711f27e12eaee ∷ 0x3ef6f26817b7b8b7 ∷ 0x3ef6d31e33d77d35 ∷ []) ∷
    -- 176
    (0x3ef6b41422fdf971 ∷ 0x3ef695493809d816 ∷ 0x3ef676bcc8230a39 ∷ 0x3ef6586e2ab1e102 ∷
    0x3ef63a5cb9561a8f ∷ 0x3ef61c87cfdd3b14 ∷ 0x3ef5feeecc3a8d1f ∷ 0x3ef5e1910e7e0af9 ∷
    0x3ef5c46df8cc463c ∷ 0x3ef5a784ef5601db ∷ 0x3ef58ad5584fc1f6 ∷ 0x3ef56e5e9bea36ec ∷
    0x3ef55220244a5c2e ∷ 0x3ef536195d818c63 ∷ 0x3ef51a49b585eeb6 ∷ 0x3ef4feb09c2b3b51 ∷ []) ∷
    -- 192
    (0x3ef4e34d831b75c3 ∷ 0x3ef4c81fddcf5da1 ∷ 0x3ef4ad272187f926 ∷ 0x3ef49262c5471362 ∷
    0x3ef477d241c8d554 ∷ 0x3ef45d75117d142f ∷ 0x3ef4434ab080772a ∷ 0x3ef429529c967602 ∷
    0x3ef40f8c55226e13 ∷ 0x3ef3f5f75b222f4e ∷ 0x3ef3dc93312701e6 ∷ 0x3ef3c35f5b506246 ∷
    0x3ef3aa5b5f45b5f3 ∷ 0x3ef39186c430b7a6 ∷ 0x3ef378e112b73e94 ∷ 0x3ef36069d4f69658 ∷ []) ∷
    -- 208
    (0x3ef34820967d188f ∷ 0x3ef33004e444f9f5 ∷ 0x3ef318164caf4d5e ∷ 0x3ef300545f7e83b9 ∷
    0x3ef2e8beadd1be98 ∷ 0x3ef2d154ca1e6be7 ∷ 0x3ef2ba16482d1d12 ∷ 0x3ef2a302bd13726b ∷
    0x3ef28c19bf2f92ce ∷ 0x3ef2755ae6237d39 ∷ 0x3ef25ec5cad0b07f ∷ 0x3ef2485a0752d8b5 ∷
    0x3ef2321736fc409c ∷ 0x3ef21bfcf650b1eb ∷ 0x3ef2060ae3016110 ∷ 0x3ef1f0409be8b518 ∷ []) ∷
    -- 224
    (0x3ef1da9dc105ed9b ∷ 0x3ef1c521f3791baa ∷ 0x3ef1afccd57f3502 ∷ 0x3ef19a9e0a6dc856 ∷
    0x3ef1859536af2473 ∷ 0x3ef170b1ffbeb57a ∷ 0x3ef15bf40c24c9a9 ∷ 0x3ef1475b037379de ∷
    0x3ef132e68e420c53 ∷ 0x3ef11e96562a84eb ∷ 0x3ef10a6a05c4e300 ∷ 0x3ef0f66148a46d1a ∷
    0x3ef0e27bcb53d28e ∷ 0x3ef0ceb93b524fbc ∷ 0x3ef0bb19470f8e98 ∷ 0x3ef0a79b9de8c289 ∷ []) ∷
    -- 240
    (0x3ef0943ff025c184 ∷ 0x3ef08105eef54c66 ∷ 0x3ef06ded4c6a2024 ∷ 0x3ef05af5bb78025c ∷
    0x3ef0481eeff0aceb ∷ 0x3ef035689e80286b ∷ 0x3ef022d27cab0878 ∷ 0x3ef0105c40caf75f ∷
    0x3eeffc0b441680d0 ∷ 0x3eefd79cb0ce3a02 ∷ 0x3eefb36c394c375b ∷ 0x3eef8f7950b421c2 ∷
    0x3eef6bc36bb6f21a ∷ 0x3eef484a008f6fe0 ∷ 0x3eef250c86fd1a69 ∷ 0x3eef020a783ce096 ∷ []) ∷
    -- 256
    (0x3eeedf434f06a15e ∷ 0x3eeebcb68786edc2 ∷ 0x3eee9a639f5a1811 ∷ 0x3eee784a1587e17b ∷
    0x3eee56696a7e4613 ∷ 0x3eee34c1200d8e11 ∷ 0x3eee1350b963100a ∷ 0x3eedf217bb0491cf ∷
    0x3eedd115aacc14bf ∷ 0x3eedb04a0fe4086a ∷ 0x3eed8fb472c1f96b ∷ 0x3eed6f545d22f29e ∷
    0x3eed4f295a06c64e ∷ 0x3eed2f32f5ac9bd3 ∷ 0x3eed0f70bd8e9d8b ∷ 0x3eecefe2405d3684 ∷ []) ∷
    -- 272
    (0x3eecd0870dfc6996 ∷ 0x3eecb15eb77f72a2 ∷ 0x3eec9268cf23f908 ∷ 0x3eec73a4e84f8e29 ∷
    0x3eec5512978be35e ∷ 0x3eec36b17281f232 ∷ 0x3eec18810ff7d72e ∷ 0x3eebfa8107cc27b4 ∷
    0x3eebdcb0f2f3245c ∷ 0x3eebbf106b72dc4c ∷ 0x3eeba19f0c5fee17 ∷ 0x3eeb845c71d9a541 ∷
    0x3eeb67483908573c ∷ 0x3eeb4a6200180a32 ∷ 0x3eeb2da9663662a4 ∷ 0x3eeb111e0b8ee802 ∷ []) ∷
    -- 288
    (0x3eeaf4bf9148e8f9 ∷ 0x3eead88d99831f0d ∷ 0x3eeabc87c751f1ff ∷ 0x3eeaa0adbebaaf64 ∷
    0x3eea84ff24b2cb00 ∷ 0x3eea697b9f1b0f8d ∷ 0x3eea4e22d4be7026 ∷ 0x3eea32f46d4d6948 ∷
    0x3eea17f0115c6402 ∷ 0x3ee9fd156a611430 ∷ 0x3ee9e26422af393b ∷ 0x3ee9c7dbe575c530 ∷
    0x3ee9ad7c5ebd3159 ∷ 0x3ee993453b639f43 ∷ 0x3ee97936291b5c07 ∷ 0x3ee95f4ed66794c7 ∷ []) ∷
    -- 304
    (0x3ee9458ef29b0570 ∷ 0x3ee92bf62dd3acdc ∷ 0x3ee9128438fa3f8d ∷ 0x3ee8f938c5be3d7e ∷
    0x3ee8e0138694c656 ∷ 0x3ee8c7142eb5a7cd ∷ 0x3ee8ae3a721962fd ∷ 0x3ee8958605760551 ∷
    0x3ee87cf69e3e54b3 ∷ 0x3ee8648bf29f06d1 ∷ 0x3ee84c45b97bc60c ∷ 0x3ee83423aa6e86c1 ∷
    0x3ee81c257dc455bd ∷ 0x3ee8044aec7b8100 ∷ 0x3ee7ec93b041bc55 ∷ 0x3ee7d4ff837212d1 ∷ []) ∷
    -- 320
    (0x3ee7bd8e211275b6 ∷ 0x3ee7a63f44d29e6c ∷ 0x3ee78f12ab0998a6 ∷ 0x3ee7780810b37c60 ∷
    0x3ee7611f337049da ∷ 0x3ee74a57d1816ead ∷ 0x3ee733b1a9c80c20 ∷ 0x3ee71d2c7bc3fcf9 ∷
    0x3ee706c80790c4be ∷ 0x3ee6f0840de461a4 ∷ 0x3ee6da60500d8b6a ∷ 0x3ee6c45c8ff1f08e ∷
    0x3ee6ae78900ca18b ∷ 0x3ee698b4136c7a81 ∷ 0x3ee6830eddb1fb1d ∷ 0x3ee66d88b30daf11 ∷ []) ∷
    -- 336
    (0x3ee65821583faf11 ∷ 0x3ee642d892942959 ∷ 0x3ee62dae27e3cce0 ∷ 0x3ee618a1de908012 ∷
    0x3ee603b37d84db33 ∷ 0x3ee5eee2cc32b4b6 ∷ 0x3ee5da2f9290c0e5 ∷ 0x3ee5c599991a64df ∷
    0x3ee5b120a8cc98c5 ∷ 0x3ee59cc48b267176 ∷ 0x3ee588850a25d33e ∷ 0x3ee57461f0476a90 ∷
    0x3ee5605b0884760e ∷ 0x3ee54c701e522f21 ∷ 0x3ee538a0fd9f63e7 ∷ 0x3ee524ed72d40bef ∷ []) ∷
    -- 352
    (0x3ee511554acf9880 ∷ 0x3ee4fdd852e7cd59 ∷ 0x3ee4ea7658e73d81 ∷ 0x3ee4d72f2b0c4f90 ∷
    0x3ee4c4029807b79c ∷ 0x3ee4b0f06efb4c06 ∷ 0x3ee49df87f798f7e ∷ 0x3ee48b1a9982ba30 ∷
    0x3ee478568d8580ea ∷ 0x3ee465ac2c5cd3af ∷ 0x3ee4531b474e51b8 ∷ 0x3ee440a3b00adce8 ∷
    0x3ee42e4538ab4706 ∷ 0x3ee41bffb3b0b533 ∷ 0x3ee409d2f4036982 ∷ 0x3ee3f7beccf132f8 ∷ []) ∷
    -- 368
    (0x3ee3e5c3122bddd6 ∷ 0x3ee3d3df97c98e41 ∷ 0x3ee3c2143242a83a ∷ 0x3ee3b060b671477f ∷
    0x3ee39ec4f98f80be ∷ 0x3ee38d40d13730ad ∷ 0x3ee37bd41360ebe4 ∷ 0x3ee36a7e96623d7c ∷
    0x3ee3594030ed9f3d ∷ 0x3ee34818ba10e266 ∷ 0x3ee33708093474fd ∷ 0x3ee3260df61a4ed9 ∷
    0x3ee3152a58dd5fb0 ∷ 0x3ee3045d09f07a77 ∷ 0x3ee2f3a5e21ce750 ∷ 0x3ee2e304ba827f68 ∷ []) ∷
    -- 384
    (0x3ee2d2796c95e618 ∷ 0x3ee2c203d2201f94 ∷ 0x3ee2b1a3c53d4d07 ∷ 0x3ee2a159205ced2c ∷
    0x3ee29123be3f3d1e ∷ 0x3ee2810379f5ce40 ∷ 0x3ee270f82ee23f81 ∷ 0x3ee26101b8b57775 ∷
    0x3ee2511ff36eb357 ∷ 0x3ee24152bb5abfea ∷ 0x3ee23199ed13b1de ∷ 0x3ee221f5657f1cd2 ∷
    0x3ee2126501ce4add ∷ 0x3ee202e89f7d1d2a ∷ 0x3ee1f3801c5116ad ∷ 0x3ee1e42b5658bc65 ∷ []) ∷
    -- 400
    (0x3ee1d4ea2beaf421 ∷ 0x3ee1c5bc7ba6e103 ∷ 0x3ee1b6a22471c481 ∷ 0x3ee1a79b05778327 ∷
    0x3ee198a6fe295866 ∷ 0x3ee189c5ee3d31be ∷ 0x3ee17af7b5ad8854 ∷ 0x3ee16c3c34b8131b ∷
    0x3ee15d934bdd4a6e ∷ 0x3ee14efcdbdfec18 ∷ 0x3ee14078c5c42929 ∷ 0x3ee13206eaceff45 ∷
    0x3ee123a72c85b90a ∷ 0x3ee115596cacf2b2 ∷ 0x3ee1071d8d48c02e ∷ 0x3ee0f8f3709b5cd2 ∷ []) ∷
    -- 416
    (0x3ee0eadaf92481cd ∷ 0x3ee0dcd409a18984 ∷ 0x3ee0cede850bcca7 ∷ 0x3ee0c0fa4e98ee2f ∷
    0x3ee0b32749ba5745 ∷ 0x3ee0a5655a1b42c1 ∷ 0x3ee097b463a1fc75 ∷ 0x3ee08a144a6e65c3 ∷
    0x3ee07c84f2d948ac ∷ 0x3ee06f0641744be8 ∷ 0x3ee061981b08a257 ∷ 0x3ee0543a64977771 ∷
    0x3ee046ed035917bc ∷ 0x3ee039afdcbb9e79 ∷ 0x3ee02c82d66389a9 ∷ 0x3ee01f65d62ae09c ∷ []) ∷
    -- 432
    (0x3ee01258c2200a17 ∷ 0x3ee0055b8086ae14 ∷ 0x3edff0dbefaae2fc ∷ 0x3edfd7201d6e4da5 ∷
    0x3edfbd83581205a6 ∷ 0x3edfa4056db65496 ∷ 0x3edf8aa62cdebe90 ∷ 0x3edf71656472cabe ∷
    0x3edf5842e3babe91 ∷ 0x3edf3f3e7a61a0a1 ∷ 0x3edf2657f87156fc ∷ 0x3edf0d8f2e5406fc ∷
    0x3edef4e3ecd20eee ∷ 0x3ededc5605118900 ∷ 0x3edec3e548957fa7 ∷ 0x3edeab91893c8289 ∷ []) ∷
    -- 448
    (0x3ede935a993fdab9 ∷ 0x3ede7b404b34439e ∷ 0x3ede63427206a8cc ∷ 0x3ede4b60e0fd2d55 ∷
    0x3ede339b6bb56fba ∷ 0x3ede1bf1e624084b ∷ 0x3ede04642493b6f9 ∷ 0x3eddecf1fba44416 ∷
    0x3eddd59b404a96a8 ∷ 0x3eddbe5fc7cf44f3 ∷ 0x3edda73f67cd747b ∷ 0x3edd9039f6333a5e ∷
    0x3edd794f493f9173 ∷ 0x3edd627f37835318 ∷ 0x3edd4bc997dd6028 ∷ 0x3edd352e417e4b72 ∷ []) ∷
    -- 464
    (0x3edd1ead0be34ec9 ∷ 0x3edd0845ced90ca1 ∷ 0x3edcf1f862789f02 ∷ 0x3edcdbc49f27f0eb ∷
    0x3edcc5aa5d9800ce ∷ 0x3edcafa976c5d0c1 ∷ 0x3edc99c1c3f8a6de ∷ 0x3edc83f31ec17f5f ∷
    0x3edc6e3d60fa7d72 ∷ 0x3edc58a064c65c7b ∷ 0x3edc431c048f9332 ∷ 0x3edc2db01b0778cb ∷
    0x3edc185c8326e086 ∷ 0x3edc0321182c0f73 ∷ 0x3edbedfdb59a2b7f ∷ 0x3edbd8f2373a1e96 ∷ []) ∷
    -- 480
    (0x3edbc3fe7917ae12 ∷ 0x3edbaf225783864a ∷ 0x3edb9a5daf109d0d ∷ 0x3edb85b05c93e6eb ∷
    0x3edb711a3d240e64 ∷ 0x3edb5c9b2e1a0667 ∷ 0x3edb48330d0e22e5 ∷ 0x3edb33e1b7d9d417 ∷
    0x3edb1fa70c9475c8 ∷ 0x3edb0b82e99678e9 ∷ 0x3edaf7752d750c4f ∷ 0x3edae37db703d366 ∷
    0x3edacf9c655370f0 ∷ 0x3edabbd117b25d80 ∷ 0x3edaa81bada97113 ∷ 0x3eda947c06ff0309 ∷ []) ∷
    -- 496
    (0x3eda80f203b4061f ∷ 0x3eda6d7d8404009e ∷ 0x3eda5a1e68647335 ∷ 0x3eda46d491851851 ∷
    0x3eda339fe04f4860 ∷ 0x3eda208035e3ab5f ∷ 0x3eda0d75739c7347 ∷ 0x3ed9fa7f7b0ac432 ∷
    0x3ed9e79e2df812dc ∷ 0x3ed9d4d16e638dd4 ∷ 0x3ed9c2191e8332bd ∷ 0x3ed9af7520c2e878 ∷
    0x3ed99ce557c3e229 ∷ 0x3ed98a69a65cd879 ∷ 0x3ed97801ef984cd3 ∷ 0x3ed965ae16b50ac0 ∷ []) ∷
    -- 512
    (0x3ed9536dff2617ba ∷ 0x3ed941418c90afcc ∷ 0x3ed92f28a2ce279d ∷ 0x3ed91d2325e8cdfd ∷
    0x3ed90b30fa1dcb19 ∷ 0x3ed8f95203dbacef ∷ 0x3ed8e78627c1c6ba ∷ 0x3ed8d5cd4aa0ac84 ∷
    0x3ed8c4275178be66 ∷ 0x3ed8b294217a5ca3 ∷ 0x3ed8a113a00546f1 ∷ 0x3ed88fa5b2a914c5 ∷
    0x3ed87e4a3f23344a ∷ 0x3ed86d012b5fefc8 ∷ 0x3ed85bca5d78f8d4 ∷ 0x3ed84aa5bbb66b73 ∷ []) ∷
    -- 528
    (0x3ed839932c8cce03 ∷ 0x3ed82892969d8793 ∷ 0x3ed817a3e0b70e4a ∷ 0x3ed806c6f1d37428 ∷
    0x3ed7f5fbb1180a91 ∷ 0x3ed7e54205d73107 ∷ 0x3ed7d499d78c7053 ∷ 0x3ed7c4030dde8eb0 ∷
    0x3ed7b37d909f75b5 ∷ 0x3ed7a30947c9f0b4 ∷ 0x3ed792a61b82a81f ∷ 0x3ed78253f4180742 ∷
    0x3ed77212ba015369 ∷ 0x3ed761e255ddc49f ∷ 0x3ed751c2b075c13b ∷ 0x3ed741b3b2b96ce8 ∷ []) ∷
    -- 544
    (0x3ed731b545c047f9 ∷ 0x3ed721c752c8d178 ∷ 0x3ed711e9c33a0325 ∷ 0x3ed7021c809f7bc6 ∷
    0x3ed6f25f74ad6037 ∷ 0x3ed6e2b2893bfe0e ∷ 0x3ed6d315a84a9af6 ∷ 0x3ed6c388bbfdbfba ∷
    0x3ed6b40bae9ed70d ∷ 0x3ed6a49e6a9cdab7 ∷ 0x3ed69540da8a5d31 ∷ 0x3ed685f2e91ebd04 ∷
    0x3ed676b48135c209 ∷ 0x3ed667858dce7206 ∷ 0x3ed65865fa0b349e ∷ 0x3ed64955b131f7d5 ∷ []) ∷
    -- 560
    (0x3ed63a549eab042f ∷ 0x3ed62b62ae01e863 ∷ 0x3ed61c7fcae44e74 ∷ 0x3ed60dabe121986b ∷
    0x3ed5fee6dcab4590 ∷ 0x3ed5f030a9944ccc ∷ 0x3ed5e18934113dab ∷ 0x3ed5d2f068771634 ∷
    0x3ed5c466333ba637 ∷ 0x3ed5b5ea80f5f255 ∷ 0x3ed5a77d3e5c846e ∷ 0x3ed5991e5846537a ∷
    0x3ed58acdbba956db ∷ 0x3ed57c8b559c7279 ∷ 0x3ed56e5713543ff8 ∷ 0x3ed56030e22539fd ∷ []) ∷
    -- 576
    (0x3ed55218af829423 ∷ 0x3ed5440e68fdd548 ∷ 0x3ed53611fc46f5ea ∷ 0x3ed52823572c3cce ∷
    0x3ed51a426798d4ef ∷ 0x3ed50c6f1b96b3a2 ∷ 0x3ed4fea9614c6abb ∷ 0x3ed4f0f126fe8abf ∷
    0x3ed4e3465b0d7757 ∷ 0x3ed4d5a8ebf6c7ae ∷ 0x3ed4c818c854a0d5 ∷ 0x3ed4ba95deddd04c ∷
    0x3ed4ad201e64a520 ∷ 0x3ed49fb775d74b9b ∷ 0x3ed4925bd43fe90f ∷ 0x3ed4850d28c3b41d ∷ []) ∷
    -- 592
    (0x3ed477cb62a3908b ∷ 0x3ed46a96713aa846 ∷ 0x3ed45d6e43ffc610 ∷ 0x3ed45052ca842f00 ∷
    0x3ed44343f472fc61 ∷ 0x3ed43641b192349a ∷ 0x3ed4294bf1c12625 ∷ 0x3ed41c62a4f97f3d ∷
    0x3ed40f85bb4e287e ∷ 0x3ed402b524ec1be7 ∷ 0x3ed3f5f0d2190032 ∷ 0x3ed3e938b333c027 ∷
    0x3ed3dc8cb8b3a514 ∷ 0x3ed3cfecd329ab23 ∷ 0x3ed3c358f33e2070 ∷ 0x3ed3b6d109b33387 ∷ []) ∷
    -- 608
    (0x3ed3aa5507615910 ∷ 0x3ed39de4dd3a5701 ∷ 0x3ed391807c46e5a4 ∷ 0x3ed38527d5a80050 ∷
    0x3ed378dada963fae ∷ 0x3ed36c997c5ffa64 ∷ 0x3ed36063ac6c4b2a ∷ 0x3ed354395c38f1ed ∷
    0x3ed3481a7d593303 ∷ 0x3ed33c0701785be3 ∷ 0x3ed32ffeda572ab5 ∷ 0x3ed32401f9cd96dc ∷
    0x3ed3181051c878eb ∷ 0x3ed30c29d44bcd8c ∷ 0x3ed3004e73705e4d ∷ 0x3ed2f47e2164cdfa ∷ []) ∷
    -- 624
    (0x3ed2e8b8d06dac37 ∷ 0x3ed2dcfe72e454ef ∷ 0x3ed2d14efb37bcf6 ∷ 0x3ed2c5aa5bead725 ∷
    0x3ed2ba10879693d2 ∷ 0x3ed2ae8170e8455e ∷ 0x3ed2a2fd0aa17633 ∷ 0x3ed29783479839c5 ∷
    0x3ed28c141ab68773 ∷ 0x3ed280af76fb7e5d ∷ 0x3ed275554f791580 ∷ 0x3ed26a0597559c67 ∷
    0x3ed25ec041ca5fc8 ∷ 0x3ed253854225a200 ∷ 0x3ed248548bc75a4f ∷ 0x3ed23d2e1223e24f ∷ []) ∷
    -- 640
    (0x3ed23211c8c29b7c ∷ 0x3ed226ffa33d0f36 ∷ 0x3ed21bf79540a670 ∷ 0x3ed210f9928c5ff3 ∷
    0x3ed206058ef2c31e ∷ 0x3ed1fb1b7e5887ba ∷ 0x3ed1f03b54b46a0e ∷ 0x3ed1e565060fb3b7 ∷
    0x3ed1da98868598b2 ∷ 0x3ed1cfd5ca42cf12 ∷ 0x3ed1c51cc5868f35 ∷ 0x3ed1ba6d6ca1009c ∷
    0x3ed1afc7b3f4b0af ∷ 0x3ed1a52b8ff4c508 ∷ 0x3ed19a98f5263512 ∷ 0x3ed1900fd81eafef ∷ []) ∷
    -- 656
    (0x3ed185902d86106b ∷ 0x3ed17b19ea13685e ∷ 0x3ed170ad028fd7fb ∷ 0x3ed166496bd4fd8c ∷
    0x3ed15bef1accc948 ∷ 0x3ed1519e047202b1 ∷ 0x3ed147561dcf6a44 ∷ 0x3ed13d175c003f07 ∷
    0x3ed132e1b42f608f ∷ 0x3ed128b51b98be97 ∷ 0x3ed11e9187871b8f ∷ 0x3ed11476ed55b525 ∷
    0x3ed10a65426ef349 ∷ 0x3ed1005c7c4d5f96 ∷ 0x3ed0f65c907ac91b ∷ 0x3ed0ec6574908c20 ∷ []) ∷
    -- 672
    (0x3ed0e2771e36425e ∷ 0x3ed0d8918324176c ∷ 0x3ed0ceb4992019e6 ∷ 0x3ed0c4e056008fcc ∷
    0x3ed0bb14afa90f13 ∷ 0x3ed0b1519c0d0a2e ∷ 0x3ed0a797112eba05 ∷ 0x3ed09de5051dcfb5 ∷
    0x3ed0943b6df916a2 ∷ 0x3ed08a9a41ee0ccc ∷ 0x3ed081017737955d ∷ 0x3ed07771041f5f14 ∷
    0x3ed06de8defd4300 ∷ 0x3ed06468fe363237 ∷ 0x3ed05af1583e4610 ∷ 0x3ed05181e395e2cf ∷ []) ∷
    -- 688
    (0x3ed0481a96cc7302 ∷ 0x3ed03ebb687dfd91 ∷ 0x3ed035644f54fae9 ∷ 0x3ed02c1542082566 ∷
    0x3ed022ce375c4dc1 ∷ 0x3ed0198f262348fa ∷ 0x3ed01058053c34c8 ∷ 0x3ed00728cb931138 ∷
    0x3ecffc02e0420863 ∷ 0x3ecfe9c3d3d704ea ∷ 0x3ecfd794600bcd5a ∷ 0x3ecfc574731e1ab3 ∷
    0x3ecfb363fb664a58 ∷ 0x3ecfa162e7545b0e ∷ 0x3ecf8f712573fa49 ∷ 0x3ecf7d8ea4674f46 ∷ []) ∷
    -- 704
    (0x3ecf6bbb52e8d4ec ∷ 0x3ecf59f71fcd9f8c ∷ 0x3ecf4841f9ffbccd ∷ 0x3ecf369bd084dd99 ∷
    0x3ecf25049277d57b ∷ 0x3ecf137c2f0d8194 ∷ 0x3ecf020295900c6f ∷ 0x3ecef097b562f112 ∷
    0x3ecedf3b7e006ebd ∷ 0x3ececdeddef8c05b ∷ 0x3ecebcaec7f5a923 ∷ 0x3eceab7e28b4e15b ∷
    0x3ece9a5bf10cf126 ∷ 0x3ece894810ea39cc ∷ 0x3ece7842784f083d ∷ 0x3ece674b1754f4b8 ∷ []) ∷
    -- 720
    (0x3ece5661de2acb90 ∷ 0x3ece4586bd157db0 ∷ 0x3ece34b9a4703162 ∷ 0x3ece23fa84abe70e ∷
    0x3ece13494e4dd27b ∷ 0x3ece02a5f1f26f5b ∷ 0x3ecdf210604a2261 ∷ 0x3ecde1888a1a2856 ∷
    0x3ecdd10e603f383d ∷ 0x3ecdc0a1d3a79682 ∷ 0x3ecdb042d55848f9 ∷ 0x3ecd9ff1566a96f3 ∷
    0x3ecd8fad480bace6 ∷ 0x3ecd7f769b7d889e ∷ 0x3ecd6f4d42169b0d ∷ 0x3ecd5f312d4093dc ∷ []) ∷
    -- 736
    (0x3ecd4f224e79b74c ∷ 0x3ecd3f20975415a5 ∷ 0x3ecd2f2bf974c223 ∷ 0x3ecd1f44669594ee ∷
    0x3ecd0f69d08244c5 ∷ 0x3eccff9c291b6c3c ∷ 0x3eccefdb6253a4cd ∷ 0x3ecce0276e31465e ∷
    0x3eccd0803eccc7dc ∷ 0x3eccc0e5c652e8d0 ∷ 0x3eccb157f701631e ∷ 0x3ecca1d6c32a5796 ∷
    0x3ecc92621d3094c0 ∷ 0x3ecc82f9f78a2b7f ∷ 0x3ecc739e44bfa619 ∷ 0x3ecc644ef76ad5ef ∷ []) ∷
    -- 752
    (0x3ecc550c02388e99 ∷ 0x3ecc45d557e69d5c ∷ 0x3ecc36aaeb4582ff ∷ 0x3ecc278caf36022b ∷
    0x3ecc187a96ac17e0 ∷ 0x3ecc097494ac8948 ∷ 0x3ecbfa7a9c4c89df ∷ 0x3ecbeb8ca0b37080 ∷
    0x3ecbdcaa951a5b2c ∷ 0x3ecbcdd46cca2b6f ∷ 0x3ecbbf0a1b1d3a87 ∷ 0x3ecbb04b937e2b2e ∷
    0x3ecba198c96932bd ∷ 0x3ecb92f1b06ae941 ∷ 0x3ecb84563c1f85ed ∷ 0x3ecb75c66033bd57 ∷ []) ∷
    -- 768
    (0x3ecb67421066dcb3 ∷ 0x3ecb58c940857f5e ∷ 0x3ecb4a5be46ce6a2 ∷ 0x3ecb3bf9f00bd593 ∷
    0x3ecb2da3575fc07f ∷ 0x3ecb1f580e75ac40 ∷ 0x3ecb1118096b0ad3 ∷ 0x3ecb02e33c6c8de2 ∷
    0x3ecaf4b99bb704d5 ∷ 0x3ecae69b1b94f6a8 ∷ 0x3ecad887b061f028 ∷ 0x3ecaca7f4e8886ae ∷
    0x3ecabc81ea812cc2 ∷ 0x3ecaae8f78d4ada9 ∷ 0x3ecaa0a7ee1a9875 ∷ 0x3eca92cb3ef87e04 ∷ []) ∷
    -- 784
    (0x3eca84f960233340 ∷ 0x3eca7732465edb60 ∷ 0x3eca6975e67d56d0 ∷ 0x3eca5bc4355f1cfc ∷
    0x3eca4e1d27f3aec8 ∷ 0x3eca4080b3379eb5 ∷ 0x3eca32eecc369e99 ∷ 0x3eca2567680abcf7 ∷
    0x3eca17ea7bdc0892 ∷ 0x3eca0a77fcdfcee1 ∷ 0x3ec9fd0fe0590e32 ∷ 0x3ec9efb21b9a1879 ∷
    0x3ec9e25ea4023833 ∷ 0x3ec9d5156efd5630 ∷ 0x3ec9c7d67206cd74 ∷ 0x3ec9baa1a2a57a70 ∷ []) ∷
    -- 800
    (0x3ec9ad76f66f5a41 ∷ 0x3ec9ad76f66f5a41 ∷ 0x3ec9ad76f66f5a41 ∷ 0x3ec9ad76f66f5a41 ∷
    0x3ec9ad76f66f5a41 ∷ 0x3ec9ad76f66f5a41 ∷ 0x3ec9ad76f66f5a41 ∷ 0x3ec9ad76f66f5a41 ∷
    0x3ec9ad76f66f5a41 ∷ 0x3ec9ad76f66f5a41 ∷ 0x3ec9ad76f66f5a41 ∷ 0x3ec9ad76f66f5a41 ∷
    0x3ec9ad76f66f5a41 ∷ 0x3ec9ad76f66f5a41 ∷ 0x3ec9ad76f66f5a41 ∷ 0x3ec9ad76f66f5a41 ∷ []) ∷
    []

unfoldable pub omega_one_beyond : ℕ → Float
omega_one_beyond s = entry bits (min s 800)
